pub mod FormulaLemmas
