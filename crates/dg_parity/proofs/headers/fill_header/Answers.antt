use Rattle.std.proofs.Common.{◌∙◌, [], refl}
use Rattle.dg_parity.proofs.PageLemmas.{parts_are, put_next}
use Rattle.dg_parity.proofs.headers.fill_header.Goals as goal

pub returns : goal.returns
returns c =
    let s1 = put_next _ _ [] _ _ _ c.put-at.ensures.end c.put-at.ensures.bytes (record { is = refl; end = refl }) in
    let s2 = put_next _ _ _ _ _ _ c.put-at-2.ensures.end c.put-at-2.ensures.bytes s1 in
    let s3 = put_next _ _ _ _ _ _ c.put-at-3.ensures.end c.put-at-3.ensures.bytes s2 in
    let s4 = put_next _ _ _ _ _ _ c.put.ensures.end c.put.ensures.bytes s3 in
    s4.is ∙ parts_are c.args.header.now _ _ c.to_le_bytes.ensures c.to_le_bytes-2.ensures
