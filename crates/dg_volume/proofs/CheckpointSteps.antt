-- A volume makes a step by a save that is kept.
use Rattle.std.proofs.Common.{◌≡◌, ◌∙◌, ◌+◌, ◌*◌, ℕ, true, false, List, refl, sym, ap, subst, arith}
use Rattle.std.specs.Prelude.{IfSome, Option}
use Rattle.std.specs.Option.{option_map}
use Rattle.std.proofs.lemmas.Bool.{false≢true}
use Rattle.dg_io.specs.declared.checkpoints.CommitAnswer.{CommitAnswer}
use Rattle.dg_io.specs.declared.outside.Rack.{Ghosts}
use Rattle.dg_label.specs.Labels.{AreNumbers, StandsLabeled}
use Rattle.dg_label.specs.LineLaws.{seal_on}
use Rattle.dg_label.specs.Seals.{HasGood, HasNoGood}
use Rattle.dg_model.specs.Changes.{IsLeastLostIn}
use Rattle.dg_model.specs.Lives.{boundary_at}
use Rattle.dg_model.specs.Members.{partner_of}
use Rattle.dg_model.specs.Seals.{LastLabel, forgotten}
use Rattle.dg_model.specs.States.{IsLeastLost, State}
use Rattle.dg_model.specs.declared.events.Event.TheVariants.{Save}
use Rattle.dg_model.specs.declared.replies.Reply.TheVariants.{Lost, Saved}
use Rattle.dg_model.specs.declared.shapes.Shape.{Shape}
use Rattle.dg_store.specs.Leaves.{IsCallOrExtendBelow}
use Rattle.dg_store.specs.Stores as stores
use Rattle.dg_store.specs.declared.store.Store.{Store}
use Rattle.dg_volume.proofs.CommitSteps.{commit_goes, left_at, passes_at, saves_at}
use Rattle.dg_volume.proofs.ForgetLaws.{label_forgotten, out_each}
use Rattle.dg_volume.proofs.UseLaws.{least_here}
use Rattle.dg_volume.proofs.VolumeLaws.{leaves_none}
use Rattle.dg_volume.specs.Commits.{CommitsArray, committed, left_on}
use Rattle.dg_volume.specs.Copies.{StepsHot}
use Rattle.dg_volume.specs.HeldLaws.{leaves_or_extend}
use Rattle.dg_volume.specs.Regroups.{GoesOn}
use Rattle.dg_volume.specs.Settles.{KeepsArray}
use Rattle.dg_volume.specs.Volumes.{IsWell, LeavesBy, line_of, live_of, members_of, shape_of, state_of}
use Rattle.dg_volume.specs.declared.phases.InPhase as phases
use Rattle.dg_volume.specs.declared.volumes.Volume.{Volume}

module _ {S R : Type 0} (phase : phases.Ghosts S) (rack : Ghosts R) where
  -- nothing was done
  pub untouched : (a : Volume S R) → IsWell phase rack a → LeavesBy phase phase rack IsCallOrExtendBelow a a × KeepsArray rack a a
  untouched a well = (leaves_or_extend phase phase rack a a (leaves_none phase rack a well), λ told V held. held)

  -- a save, and then calls behind it
  pub goes_behind : (a m b : Volume S R) → LeavesBy phase phase rack IsCallOrExtendBelow a m → GoesOn phase rack m b → GoesOn phase rack a b
  goes_behind a m b first second =
      let rise = first.rise in
      record {
        well = second.well;
        boundaries = second.boundaries ∙ first.boundaries;
        line = second.line ∙ first.line;
        calls = omega (arith, rise.calls, second.calls);
        writes = omega (arith, rise.writes, second.writes);
      }

  -- some member is good
  pub steps_kept : (room : R → Option ℕ) (goes : R → R → Type 0) (extra : List ℕ) (answer : CommitAnswer) (hot : List ℕ) (sequence : ℕ) (a m : Volume S R) (store : Store R) → IsWell phase rack m
      → CommitsArray rack room goes extra answer m.store store → StepsHot phase phase rack hot a Save (Saved sequence) m → HasGood store
      → StepsHot phase phase rack hot a Save (Saved sequence) (record m { store = store })
  steps_kept room goes extra answer hot sequence a m store well h steps good origin state st recent =
      let go = steps origin state st recent in (
        committed rack (record m { store = store }) go.0 (option_map (left_on (stores.members_of store)) go.0.label),
        left_at phase rack room goes extra answer m store h origin go.0 go.1,
        saves_at phase rack room goes extra answer m store h origin state go.0 sequence well go.1 go.2 good,
        go.3,
      )

  -- ---- no member is good: the label is the one that was kept before

  module _ (room : R → Option ℕ) (goes : R → R → Type 0) (extra : List ℕ) (answer : CommitAnswer) (a m : Volume S R) (store : Store R) (well : IsWell phase rack a) (saved : LeavesBy phase phase rack IsCallOrExtendBelow a m)
      (h : CommitsArray rack room goes extra answer m.store store) (none : HasNoGood store) where
    abbrev after : Volume S R
    after = record m { store = store; label = a.label }

    on : GoesOn phase rack m (record m { store = store })
    on = commit_goes phase rack room goes extra answer m store h saved.well

    line : line_of after ≡ line_of a
    line = on.line ∙ saved.line

    shape : stores.shape_of store ≡ shape_of a
    shape = ap (λ t. t.shape) h.table ∙ saved.shape

    after_well : IsWell phase rack after
    after_well =
        let w = on.well in
        record {
          array = w.array;
          levels = w.levels;
          marks = w.marks;
          inferred = w.inferred;
          labeled = record {
            fits = w.labeled.fits;
            numbers = subst (λ (x : Shape). IfSome a.label (AreNumbers x)) (sym line) well.labeled.numbers;
            sealed = seal_on (shape_of a) (stores.shape_of store) a.label shape well.labeled.sealed;
            lengths = λ q here. absurd (out_each rack store w.array none q here);
            filling = λ q fills. absurd (false≢true (sym (none (partner_of q)) ∙ w.array.paired q fills));
          };
          in_use = w.in_use;
          long = w.long;
          homes_are = w.homes_are;
          few_homes = w.few_homes;
          copies_are = w.copies_are;
          uncopied = w.uncopied;
          worn = w.worn;
          settled = w.settled;
        }

    pub goes_lost : GoesOn phase rack a after
    goes_lost =
        let rise = saved.rise in
        record { well = after_well; boundaries = saved.boundaries; line = line; calls = omega (arith, rise.calls, on.calls); writes = omega (arith, rise.writes, on.writes) }

    first_lost : IsLeastLost (shape_of after) (members_of after) 0
    first_lost =
        let some = on.well.array.table.shape.least_boundaries in
        record { within = omega (arith, some); lost = rw (none (2 * 0), none (2 * 0 + 1)) refl; least = λ t less. absurd (omega (arith, less)) }

    pub steps_lost : (hot : List ℕ) (sequence : ℕ) → StepsHot phase phase rack hot a Save (Saved sequence) m → StepsHot phase phase rack hot a Save (Lost (boundary_at (live_of m) 0)) after
    steps_lost hot sequence steps origin state st recent =
        let go = steps origin state st recent in
        let last : Option LastLabel = option_map forgotten state.label in
        let next : State = committed rack after go.0 last in
        let left = left_at phase rack room goes extra answer m store h origin go.0 go.1 in
        let is : next ≡ state_of phase rack after next next.blocks = λ i. record (left.is i) { label = last } in
        let save = go.2 in (
          next,
          record {
            is = is;
            label = subst (λ (x : Shape). StandsLabeled rack x store a.label last) (sym line) (label_forgotten rack store on.well.array none (line_of a) a.store a.label state.label shape st.label);
            holds = λ told. let had = left.holds told in record { array = had.array; inferred = had.inferred };
          },
          (
            subst (λ (x : State). IsLeastLostIn x (boundary_at (live_of m) 0)) (sym is) (least_here after 0 after_well.in_use first_lost),
            record {
              passes = passes_at phase rack room goes extra answer m store h origin state go.0 saved.well go.1 (ap (λ (x : State). x.table) save.rest) save.passes last;
              none = none;
              rest = λ i. record (save.rest i) { members = stores.members_of store; counts = rack.counts (stores.rack_of store); label = last };
            },
          ),
          go.3,
        )
