use Rattle.std.proofs.Common.{◌≡◌, ◌<◌, ℕ, get_or, length, rules}
use Rattle.std.proofs.lemmas.Nat.{le_bytes_8}
use Rattle.dg_regroup.proofs.extras.number_of_eight.Goals as goal

pub returns : goal.returns
returns c =
    let long : length c.args.bytes ≡ 8 = search rules in
    let small : (i : ℕ) → get_or c.args.bytes i 0 < 256 = search rules in
    le_bytes_8 c.args.bytes c.from_le_bytes.result long small c.from_le_bytes.ensures
