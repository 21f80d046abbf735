pub mod ScopedPrograms
