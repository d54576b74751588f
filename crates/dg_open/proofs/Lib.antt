mod FoundLemmas
mod LabelLemmas
mod OpenLemmas
mod ReadLemmas
mod RowLemmas
mod TableLemmas
