-- Listings of entries, and the sink that was lent for their lines.
use Rattle.std.proofs.Common.{◌≡◌, ◌∙◌, ℕ, List, ap, refl, subst}
use Rattle.std.specs.Prelude.{codes}
use Rattle.dg_io.specs.Told.{Told, Took, TookPart}
use Rattle.dg_io.specs.declared.outside.Rack.{Ghosts}
use Rattle.dg_io.specs.declared.outside.Sink as sinks
use Rattle.dg_model.specs.declared.events.Event.TheVariants.{Ls, Tree}
use Rattle.dg_model.specs.declared.replies.Reply.TheVariants.{Listed as ListedReply, ListedCut, Nodes, NodesCut}
use Rattle.dg_run.proofs.ListedReplies.{Lent, Listing}
use Rattle.dg_run.specs.declared.arrays.Array.{Array}
use Rattle.dg_text.specs.ListingLines.{TookEntries, TookEntriesPart}
use Rattle.dg_text.specs.Listings.{lines_in}
use Rattle.dg_text.specs.Replies.{entries_text, nodes_text}
use Rattle.dg_text.specs.declared.listing_lines.Lines.{Lines}
use Rattle.dg_text.specs.declared.listings.Form.{Form}
use Rattle.ufs_model.specs.Listings.{Listed}

-- of all directories
abbrev pub nodes : Listing Listed
nodes = record {
  event = Tree;
  text = nodes_text;
  in_use = λ reply. tt;
  whole = record { word = codes "end "; reply = Nodes; line = λ entries. refl };
  cut = record { word = codes "cut "; reply = NodesCut; line = λ entries. refl };
}

-- of one
abbrev pub entries_at : List ℕ → Listing Listed
entries_at path = record {
  event = Ls path;
  text = entries_text;
  in_use = λ reply. tt;
  whole = record { word = codes "end "; reply = ListedReply; line = λ entries. refl };
  cut = record { word = codes "cut "; reply = ListedCut; line = λ entries. refl };
}

-- the lines have the form of the listing
pub lines_lent : {K R : Type 0} (ghosts : sinks.Ghosts K) (kind : Listing Listed) (form : Form) → ((entries : List Listed) → lines_in form entries ≡ kind.text entries) → (rack : Ghosts R) (sink : K)
    (old out : Lines K) (a b : Array R) → old.form ≡ form → old.sink.now ≡ sink → b.hot ≡ a.hot
    → Lent kind ghosts rack sink (λ (s : Lines K). s.sink.now) (TookEntries ghosts) (TookEntriesPart ghosts) old out a b
lines_lent {K = K} ghosts kind form text rack sink old out a b form_is is hot =
    let same = λ (entries : List Listed). ap (λ (f : Form). lines_in f entries) form_is ∙ text entries in
    record {
      is = is;
      told = λ entries took. subst (λ (k : K). Told (Took (kind.text entries)) (ghosts.taken k) (ghosts.taken out.sink.now)) is
          (subst (λ (l : List ℕ). Told (Took l) (ghosts.taken old.sink.now) (ghosts.taken out.sink.now)) (same entries) took.told);
      part = λ entries took. subst (λ (k : K). Told (TookPart (kind.text entries)) (ghosts.taken k) (ghosts.taken out.sink.now)) is
          (subst (λ (l : List ℕ). Told (TookPart l) (ghosts.taken old.sink.now) (ghosts.taken out.sink.now)) (same entries) took.told);
      few = λ entries took. took.few_lines;
      hot = hot;
    }
