pub mod AnsweredCuts
