-- What a save of a volume says, and the reply that its answer stands for.
use Rattle.std.specs.Prelude.{◌*◌, ℕ, Bool, List, map}
use Rattle.std.specs.List.{range_with_len}
use Rattle.dg_label.specs.declared.saves.SaveAnswer.{SaveAnswer}
use Rattle.dg_label.specs.declared.saves.SaveAnswer.TheVariants.{Lost, Saved}
use Rattle.dg_model.specs.Members.{is_good}
use Rattle.dg_model.specs.Saves.{SavedState}
use Rattle.dg_model.specs.declared.replies.Reply.{Reply}
use Rattle.dg_model.specs.declared.replies.Reply.TheVariants.{Lost as LostReply, Saved as SavedReply}
use Rattle.dg_store.specs.Stores as stores
use Rattle.dg_store.specs.declared.store.Store.{Store}
use Rattle.dg_volume.specs.Volumes.{marks_of, phase_of, table_of}
use Rattle.dg_volume.specs.declared.phases.InPhase as phases
use Rattle.dg_volume.specs.declared.volumes.Volume.{Volume}

abbrev pub save_reply : SaveAnswer → Reply
save_reply (Saved sequence) = SavedReply sequence
save_reply (Lost s) = LostReply s

-- a mark for each member of an array that is good
abbrev pub good_marks : {R : Type 0} → Store R → List Bool
good_marks store = map (λ q. is_good (stores.members_of store q)) (range_with_len 0 (2 * (stores.shape_of store).b))

-- what is saved of a volume, with these files as those that were read last
abbrev pub saved_by : {S R : Type 0} → phases.Ghosts S → Volume S R → List ℕ → SavedState
saved_by phase volume recent = record {
  phase = phase_of phase volume;
  good = good_marks volume.store;
  table = table_of volume;
  pending = marks_of phase volume;
  homes = volume.homes;
  copies = volume.copies;
  recent = recent;
}
