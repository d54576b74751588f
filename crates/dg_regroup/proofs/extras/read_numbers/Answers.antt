use Rattle.std.proofs.Common.{◌≡◌, ◌∙◌, ◌-◌, ◌++◌, length, length-drop, refl, sym, ap, arith}
use Rattle.std.proofs.lemmas.List.{take-append-drop}
use Rattle.dg_regroup.proofs.ExtraLemmas.{numbers_length, numbers_read, same_count}
use Rattle.dg_regroup.proofs.extras.read_numbers.Goals as goal

pub returns-then-rest-count : goal.returns-then-rest-count
returns-then-rest-count c = λ numbers says.
    let bytes = c.args.bytes.now in
    let count = same_count bytes numbers c.split_at.result.0.now c.number_of_four-count.result says c.split_at.ensures.front (omega arith) c.number_of_four-count.ensures in
    let long = numbers_length bytes numbers says in
    let size : length c.split_at.result.1.now ≡ length bytes - 4 = ap length c.split_at.ensures.back ∙ length-drop 4 bytes in
    absurd (omega (arith, count, long, size, c.if-rest-count.true))

pub returns : goal.returns
returns c =
    let bytes = c.args.bytes.now in
    let whole : bytes ≡ c.split_at.result.0.now ++ c.split_at.result.1.now = sym (take-append-drop 4 bytes) ∙ rw (c.split_at.ensures.front, c.split_at.ensures.back) refl in
    let size : length c.split_at.result.0.now ≡ 4 = omega (arith, c.split_at.ensures.front_len) in
    numbers_read bytes c.split_at.result.0.now c.split_at.result.1.now c.in_ok-numbers.numbers.items c.number_of_four-count.result whole size (omega arith)
    c.number_of_four-count.ensures c.in_ok-numbers.ensures.count c.in_ok-numbers.ensures.fit c.in_ok-numbers.ensures.bytes
