pub mod FileLaws
pub mod FilesLaws
pub mod AnswerLaws
pub mod Claims
pub mod Figures
