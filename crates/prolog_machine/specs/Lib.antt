-- `Machine` says what each operation does when it runs in a prolog; `Stop` what a stop is, inside a prolog or after it and a body.
pub mod Machine
pub mod Stop
