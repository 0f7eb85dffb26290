-- `Dos` is the header, `Answers` what each answer stands for, `Code` what a private function hands back.
pub mod Dos
pub mod Answers
pub mod Code
