pub mod HeadingsLemmas
pub mod ExternalsLemmas
pub mod ProgramsLemmas
pub mod LoopsLemmas
