mod BlockLaws
mod CountRows
mod ItemLaws
mod LoadLaws
mod MadeLaws
mod PathLaws
mod SpecRows
mod SystemRows
