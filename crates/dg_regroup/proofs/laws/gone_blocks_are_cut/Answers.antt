use Rattle.dg_regroup.proofs.LawLemmas.{cut_same, left_same}
use Rattle.dg_regroup.proofs.laws.gone_blocks_are_cut.Goals as goal

pub returns : goal.returns
returns c = record {
  left = λ lost shape members marked. left_same lost shape members marked;
  cut = λ lost table members is marked. cut_same lost table members is marked;
}
