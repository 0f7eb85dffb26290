-- The laws of a search over any table: one for each outcome of a turn, with no bound on the turns.
-- Assumes nothing.
use mathlib.Core.Path.{◌≡◌, refl, sym, ap, ◌∙◌}
use mathlib.Core.Logic.{⊎_elim}
use mathlib.Core.Bool.{Bool, true, false}
use Prim.Native.Nat.{ℕ, zero, suc, ◌+◌, ◌-◌, ◌≤◌, ◌<◌}
use native.Mathlib.Omega.{arith}
use lib.Dec.{leb, ltb}
use borrow.Author.Tests.{le-leb, lt-leb, lt-ltb, le-ltb}
use Rattle.fields.proofs.Laws.{le_or_lt}
use Rattle.answer.specs.Test.{pick}
use Rattle.runtime_table.specs.Table.{Table}
use Rattle.runtime_lookup.specs.Halving.{Holds, Gone, Nothing, Halved, holds, middle, ended, plus, search_from, among}

-- a turn of the search, by what goes on before the record in the middle and what after it
abbrev pub turn_of : Table → ℕ → ℕ → ℕ → Halved → Halved → Halved
turn_of t a low high before after =
    pick (leb high low)
    (ended Nothing 0)
    (pick (t.there (middle low high))
    (pick (holds t a (middle low high)) (ended (Holds (middle low high)) 1)
    (plus 1 (pick (ltb a (t.begin (middle low high))) before after)))
    (ended (Gone (middle low high)) 0))

module _ (t : Table) (a : ℕ) where
  pub from_none : (low high : ℕ) → search_from t a zero low high ≡ ended Nothing 0
  unfolding search_from
  from_none low high = refl

  pub from_empty : (turns low high : ℕ) → high ≤ low → search_from t a turns low high ≡ ended Nothing 0
  unfolding search_from
  from_empty zero low high h = refl
  from_empty (suc turns) low high h = rw (le-leb high low h)

  -- turns enough are turns enough
  stable : (f g low high : ℕ) → high ≤ low + f → high ≤ low + g → search_from t a f low high ≡ search_from t a g low high
  unfolding search_from
  stable zero g low high p q = sym (from_empty g low high (omega arith))
  stable (suc f) zero low high p q = from_empty (suc f) low high (omega arith)
  stable (suc f) (suc g) low high p q =
      ⊎_elim
      (λ e. rw (le-leb high low e))
      (λ l.
      let before : search_from t a f low (middle low high) ≡ search_from t a g low (middle low high) = stable f g low (middle low high)
      (omega arith) (omega arith) in
      let after : search_from t a f (suc (middle low high)) high ≡ search_from t a g (suc (middle low high)) high = stable f g
      (suc (middle low high)) high (omega arith) (omega arith) in
      rw (before, after))
      (le_or_lt high low)

  module _ (turns low high : ℕ) (l : low < high) where
    pub from_gone : t.there (middle low high) ≡ false → search_from t a (suc turns) low high ≡ ended (Gone (middle low high)) 0
    unfolding search_from
    from_gone h = rw (lt-leb high low l, h)

    module _ (h : t.there (middle low high) ≡ true) where
      pub from_before : a < t.begin (middle low high)
          → search_from t a (suc turns) low high ≡ plus 1 (search_from t a turns low (middle low high))
      unfolding search_from
      from_before p =
          rw (lt-leb high low l, h, lt-leb (t.begin (middle low high)) a p, lt-ltb a (t.begin (middle low high)) p)

      module _ (p : t.begin (middle low high) ≤ a) where
        pub from_holds : a < t.end (middle low high) → search_from t a (suc turns) low high ≡ ended (Holds (middle low high)) 1
        unfolding search_from
        from_holds q = rw (lt-leb high low l, h, le-leb (t.begin (middle low high)) a p, lt-ltb a (t.end (middle low high)) q)

        pub from_after : t.end (middle low high) ≤ a
            → search_from t a (suc turns) low high ≡ plus 1 (search_from t a turns (suc (middle low high)) high)
        unfolding search_from
        from_after q =
            rw (
              lt-leb high low l,
              h,
              le-leb (t.begin (middle low high)) a p,
              le-ltb a (t.end (middle low high)) q,
              le-ltb a
                  (t.begin (middle low high)) p,
            )

-- what a look at the record at `m` tells
pub data Turn (t : Table) (a m : ℕ) : Type 0 where
  At-gone : t.there m ≡ false → Turn t a m
  At-holds : t.there m ≡ true → t.begin m ≤ a → a < t.end m → Turn t a m
  At-before : t.there m ≡ true → a < t.begin m → Turn t a m
  At-after : t.there m ≡ true → t.begin m ≤ a → t.end m ≤ a → Turn t a m

pub turn_at : (t : Table) (a m : ℕ) → Turn t a m
turn_at t a m = go (t.there m) refl
  where
    go : (b : Bool) → t.there m ≡ b → Turn t a m
    go false e = At-gone e
    go true e =
        ⊎_elim
        (λ p. ⊎_elim (λ q. At-after e p q) (λ q. At-holds e p q) (le_or_lt (t.end m) a))
        (λ p. At-before e p)
        (le_or_lt (t.begin m) a)

among_all : (t : Table) (a low high turns : ℕ) → high ≤ low + turns → search_from t a turns low high ≡ among t a low high
unfolding among
among_all t a low high turns h = stable t a turns (high - low) low high h (omega arith)

one_turn : (t : Table) (a turns low high : ℕ)
    → search_from t a (suc turns) low high ≡ turn_of t a low high (search_from t a turns low (middle low high))
    (search_from t a turns (suc (middle low high)) high)
unfolding search_from
one_turn t a turns low high = refl

module _ (t : Table) (a low high : ℕ) where
  one_more : search_from t a (suc (high - low)) low high ≡ among t a low high
  unfolding among
  one_more = stable t a (suc (high - low)) (high - low) low high (omega arith) (omega arith)

  -- any number of turns that is not below the records' gives the same
  pub among_from : (turns : ℕ) → high ≤ low + turns → search_from t a turns low high ≡ among t a low high
  among_from = among_all t a low high

  -- the search, with no bound on its turns
  pub among_is : among t a low high ≡ turn_of t a low high (among t a low (middle low high)) (among t a (suc (middle low high)) high)
  among_is =
      ⊎_elim
      (λ e. sym one_more ∙ from_empty t a (suc (high - low)) low high e ∙ rw (le-leb high low e))
      (λ l.
      let m : ℕ = middle low high in
      let before : search_from t a (high - low) low m ≡ among t a low m = among_all t a low m (high - low) (omega arith) in
      let after : search_from t a (high - low) (suc m) high ≡ among t a (suc m) high = among_all t a (suc m) high (high - low) (omega arith)
      in
      sym one_more ∙ one_turn t a (high - low) low high ∙ rw (before, after))
      (le_or_lt high low)

  pub among_empty : high ≤ low → ended Nothing 0 ≡ among t a low high
  unfolding among
  among_empty h = sym (from_empty t a (high - low) low high h)

  module _ (m : ℕ) (e : m ≡ middle low high) (l : low < high) where
    pub among_gone : t.there m ≡ false → ended (Gone m) 0 ≡ among t a low high
    among_gone h = ap (λ (i : ℕ). ended (Gone i) 0) e ∙ sym (from_gone t a (high - low) low high l (rw e at h)) ∙ one_more

    module _ (h : t.there m ≡ true) where
      pub among_before : a < t.begin m → plus 1 (among t a low m) ≡ among t a low high
      unfolding among
      among_before p =
          ap (plus 1) (stable t a (m - low) (high - low) low m (omega arith) (omega arith) ∙ ap (search_from t a (high - low) low) e)
          ∙ sym (from_before t a (high - low) low high l (rw e at h) (rw e at p))
          ∙ one_more

      module _ (p : t.begin m ≤ a) where
        pub among_holds : a < t.end m → ended (Holds m) 1 ≡ among t a low high
        among_holds q =
            ap (λ (i : ℕ). ended (Holds i) 1) e ∙ sym (from_holds t a (high - low) low high l (rw e at h) (rw e at p) (rw e at q)) ∙
            one_more

        pub among_after : t.end m ≤ a → plus 1 (among t a (suc m) high) ≡ among t a low high
        unfolding among
        among_after q =
            ap (plus 1) (stable t a (high - suc m) (high - low) (suc m) high (omega arith) (omega arith) ∙ ap
            (λ (i : ℕ). search_from t a (high - low) (suc i) high) e)
            ∙ sym (from_after t a (high - low) low high l (rw e at h) (rw e at p) (rw e at q))
            ∙ one_more
