-- Two answers that meet the contract of an exported function are equal, and so is what they leave in lent memory.
-- Assumes nothing.
use mathlib.Core.Path.{◌≡◌}
use mathlib.Core.List.{List}
use Prim.Native.Nat.{ℕ}
use Rattle.answer.proofs.Unique.{same_both}
use Rattle.answer.specs.Answer.{number, values}
use Rattle.fields.specs.Answers.{answer_write_bytes}
use Rattle.fields.specs.Field.{write_of}
use Rattle.scope_table.specs.Answers.{answer_count_scopes, answer_read_scope_table_entry, count_count_scopes, count_read_scope_table_entry}
use Rattle.scope_table.specs.Handler.{count_at_of, entry_at_of}
use Rattle.scope_table.specs.Scope.{count_in_of, entry_in_of, read_of, write_out}

pub hullsift_count_scopes_in_unique :
    («data» : List ℕ) {r q : ℕ} {l k : List ℕ}
    → (r ≡ number (answer_count_scopes (count_in_of «data»))) × (l ≡ values count_count_scopes (answer_count_scopes (count_in_of «data»)))
    → (q ≡ number (answer_count_scopes (count_in_of «data»))) × (k ≡ values count_count_scopes (answer_count_scopes (count_in_of «data»)))
    → (r ≡ q) × (l ≡ k)
hullsift_count_scopes_in_unique «data» = same_both

pub hullsift_scope_in_unique :
    («data» : List ℕ) (index : ℕ) {r q : ℕ} {l k : List ℕ}
    → (r ≡ number (answer_read_scope_table_entry (entry_in_of «data» index))) ×
    (l ≡ values count_read_scope_table_entry (answer_read_scope_table_entry (entry_in_of «data» index)))
    → (q ≡ number (answer_read_scope_table_entry (entry_in_of «data» index))) ×
    (k ≡ values count_read_scope_table_entry (answer_read_scope_table_entry (entry_in_of «data» index)))
    → (r ≡ q) × (l ≡ k)
hullsift_scope_in_unique «data» index = same_both

pub hullsift_count_scopes_at_unique :
    (file : List ℕ) (at : ℕ) {r q : ℕ} {l k : List ℕ}
    → (r ≡ number (answer_count_scopes (count_at_of file at))) × (l ≡ values count_count_scopes (answer_count_scopes (count_at_of file at)))
    → (q ≡ number (answer_count_scopes (count_at_of file at))) × (k ≡ values count_count_scopes (answer_count_scopes (count_at_of file at)))
    → (r ≡ q) × (l ≡ k)
hullsift_count_scopes_at_unique file at = same_both

pub hullsift_scope_at_unique :
    (file : List ℕ) (at : ℕ) (index : ℕ) {r q : ℕ} {l k : List ℕ}
    → (r ≡ number (answer_read_scope_table_entry (entry_at_of file at index))) ×
    (l ≡ values count_read_scope_table_entry (answer_read_scope_table_entry (entry_at_of file at index)))
    → (q ≡ number (answer_read_scope_table_entry (entry_at_of file at index))) ×
    (k ≡ values count_read_scope_table_entry (answer_read_scope_table_entry (entry_at_of file at index)))
    → (r ≡ q) × (l ≡ k)
hullsift_scope_at_unique file at index = same_both

pub hullsift_read_scope_unique :
    (bytes : List ℕ) (at : ℕ) {r q : ℕ} {l k : List ℕ}
    → (r ≡ number (answer_read_scope_table_entry (read_of bytes at))) ×
    (l ≡ values count_read_scope_table_entry (answer_read_scope_table_entry (read_of bytes at)))
    → (q ≡ number (answer_read_scope_table_entry (read_of bytes at))) ×
    (k ≡ values count_read_scope_table_entry (answer_read_scope_table_entry (read_of bytes at)))
    → (r ≡ q) × (l ≡ k)
hullsift_read_scope_unique bytes at = same_both

pub hullsift_write_scope_unique :
    (bytes : List ℕ) (at : ℕ) (begin : ℕ) (end : ℕ) (handler : ℕ) (target : ℕ) {r q : ℕ} {l k : List ℕ}
    → (r ≡ number (answer_write_bytes (write_of 16 bytes at))) ×
    (l ≡ write_out bytes at (record { begin = begin; end = end; handler = handler; target = target }))
    → (q ≡ number (answer_write_bytes (write_of 16 bytes at))) ×
    (k ≡ write_out bytes at (record { begin = begin; end = end; handler = handler; target = target }))
    → (r ≡ q) × (l ≡ k)
hullsift_write_scope_unique bytes at begin end handler target = same_both
