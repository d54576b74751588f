use Rattle.std.proofs.Common.{◌∙◌, ℕ, ap, sym}
use Rattle.std.specs.Prelude.{false}
use Rattle.std.proofs.lemmas.List.{append-nil}
use Rattle.ufs_drill.proofs.ItemLaws.{behind_more}
use Rattle.ufs_drill.specs.Items.{bytes_of, file_item, file_path, size_by}
use Rattle.rand_pcg.specs.Lcg.{Lcg}
use Rattle.rand_pcg.specs.Pcg.{pcg32}
use Rattle.ufs_build.specs.declared.items.Item.{Item}
use Rattle.ufs_build.specs.declared.items.ItemKind.TheVariants.{File}
use Rattle.ufs_drill.proofs.items.push_files.Goals as goal

pub loop-k-init : goal.loop-k-init
loop-k-init c = record { sizes = c.sizes_of-sizes.ensures; items = sym (append-nil c.args.items.now.items) }

pub loop-k-preserved : goal.loop-k-preserved
loop-k-preserved c =
    let k = c.loop-k.k in
    let was = c.loop-k.invariant in
    let size = c.next_size-size.ensures.size ∙ ap (λ (g : Lcg). size_by (pcg32 g).0 c.loop-k.k) was.sizes in
    let bytes : ℕ → Item = λ n. record { path = file_path c.loop-k.k; kind = File; bytes = bytes_of c.loop-k.k n; sparse = false } in
    record {
      sizes = c.next_size-size.ensures.next c.args.seed k was.sizes;
      items = behind_more (file_item c.args.seed) k c.args.items.now.items _ _ _ was.items (c.in_ok-file_item.ensures ∙ ap bytes size) c.in_ok-push_item.ensures;
    }
