-- The events of a trace are in their places.
use Rattle.std.proofs.Common.{◌≡◌, ◌<◌, ◌≤◌, ◌*◌, ◌^◌, ℕ, List, length, drop, arith}
use Rattle.std.specs.Prelude.{Some}
use Rattle.std.proofs.lemmas.List.{length-take-le}
use Rattle.std.proofs.lemmas.List.Elements.{All-drop, All-map, All-take, All-weaker}
use Rattle.dg_model.specs.Blocks.{stripped}
use Rattle.dg_text.specs.Lines.{AreBytes, AreInPlace, IsInPlace}
use Rattle.dg_trace.specs.Answers.{IsAccepted, events_of, volume_bytes}
use Rattle.dg_trace.specs.Traces.{write_of}
use Rattle.dg_trace.specs.Volumes.{shape_for}
use Rattle.dg_trace.specs.declared.asked.Asked.{Asked}
use Rattle.dg_trace.proofs.BlockLaws.{block_size, stripped_bytes, stripped_short}
use Rattle.dg_trace.proofs.OrderLaws.{trace_below}
use Rattle.ufs_build.specs.Traces.{block_in, trace_of}
use Rattle.ufs_model.specs.declared.geometries.Geometry.{Geometry}

-- the bytes of the volume, as many as it has fragments
pub volume_size : (asked : Asked) (image : List ℕ) (g : Geometry) → IsAccepted asked image g → length (volume_bytes g image) ≡ g.size * g.fsize
volume_size asked image g is = length-take-le (g.size * g.fsize) image is.has.whole

block_are_bytes : (l b : ℕ) (volume : List ℕ) → AreBytes volume → AreBytes (block_in l volume b)
block_are_bytes l b volume all =
    All-take (λ (x : ℕ). x < 256) l (drop (b * l) volume) (All-drop (λ (x : ℕ). x < 256) (b * l) volume all)

write_in_place : (asked : Asked) (image : List ℕ) (g : Geometry) → AreBytes image → IsAccepted asked image g → (b : ℕ) → b < g.size
    → IsInPlace (Some (shape_for asked g)) (write_of g.fsize (volume_bytes g image) b)
write_in_place asked image g all is b low =
    let volume = volume_bytes g image in
    let size : length (block_in g.fsize (volume_bytes g image) b) ≡ g.fsize = block_size g.fsize g.size b (volume_bytes g image) (volume_size asked image g is) low in
    let short : length (stripped (block_in g.fsize (volume_bytes g image) b)) ≤ length (block_in g.fsize (volume_bytes g image) b) =
    stripped_short (block_in g.fsize (volume_bytes g image) b) in
    let few : g.size ≤ 2 ^ 20 = is.limits.most_blocks in (
      omega (arith, low, few),
      omega (arith, size, short),
      stripped_bytes (block_in g.fsize (volume_bytes g image) b)
          (block_are_bytes g.fsize b (volume_bytes g image) (All-take (λ (x : ℕ). x < 256) (g.size * g.fsize) image all)),
    )

pub in_place : (asked : Asked) (image : List ℕ) (g : Geometry) → AreBytes image → IsAccepted asked image g → AreInPlace (events_of asked image g)
in_place asked image g all is = (
  is.limits,
  All-map (IsInPlace (Some (shape_for asked g))) (write_of g.fsize (volume_bytes g image)) (trace_of asked.order g (volume_bytes g image))
      (All-weaker (λ (b : ℕ). b < g.size) (λ (b : ℕ). IsInPlace (Some (shape_for asked g)) (write_of g.fsize (volume_bytes g image) b))
      (λ b low. write_in_place asked image g all is b low) (trace_of asked.order g (volume_bytes g image))
      (trace_below asked.order g (volume_bytes g image))),
)
