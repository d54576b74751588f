use Rattle.std.proofs.Common.{◌∙◌, [], ap, refl}
use Rattle.byteorder.specs.Endian.{little_bytes}
use Rattle.dg_save.proofs.LabelLemmas.{parts_are, put_next}
use Rattle.dg_save.specs.Labels.{label_of}
use Rattle.dg_save.proofs.labels.write_label.Goals as goal

pub returns : goal.returns
returns c =
    let s1 = put_next _ _ [] _ _ _ c.put-at.ensures.end c.put-at.ensures.bytes (record { is = refl; end = refl }) in
    let s2 = put_next _ _ _ _ _ _ c.put-at-2.ensures.end c.put-at-2.ensures.bytes s1 in
    let s3 = put_next _ _ _ _ _ _ c.put-at-3.ensures.end c.put-at-3.ensures.bytes s2 in
    let s4 = put_next _ _ _ _ _ _ c.put-at-4.ensures.end c.put-at-4.ensures.bytes s3 in
    let s5 = put_next _ _ _ _ _ _ c.put-at-5.ensures.end c.put-at-5.ensures.bytes s4 in
    let s6 = put_next _ _ _ _ _ _ c.put-at-6.ensures.end c.put-at-6.ensures.bytes s5 in
    let s7 = put_next _ _ _ _ _ _ c.put-at-7.ensures.end c.put-at-7.ensures.bytes s6 in
    let s8 = put_next _ _ _ _ _ _ c.put-at-8.ensures.end c.put-at-8.ensures.bytes s7 in
    let s9 = put_next _ _ _ _ _ _ c.put-at-9.ensures.end c.put-at-9.ensures.bytes s8 in
    let s10 = put_next _ _ _ _ _ _ c.put.ensures.end c.put.ensures.bytes s9 in
    s10.is ∙ parts_are (label_of c.args.label.now) _ _ _ _ _ _ _ _ c.seal_of.ensures c.to_le_bytes.ensures c.to_le_bytes-2.ensures c.to_le_bytes-3.ensures (c.to_le_bytes-4.ensures ∙ ap (little_bytes 4) c.from.ensures) c.to_le_bytes-5.ensures (c.to_le_bytes-6.ensures ∙ ap (little_bytes 4) c.from-2.ensures) c.to_le_bytes-7.ensures
