-- The label of an array of which no member is good any more: none has it.
use Rattle.std.proofs.Common.{◌≡◌, ◌≢◌, ◌∙◌, ℕ, false, inl, inr, refl, sym}
use Rattle.std.specs.Prelude.{IfSome, None, Option, Some}
use Rattle.std.specs.Option.{option_map}
use Rattle.std.proofs.lemmas.Bool.{false≢true}
use Rattle.dg_io.specs.declared.outside.Rack.{Ghosts}
use Rattle.dg_label.specs.Labels.{AreSized, IsKeptOf, IsOfBoundariesInUse, StandsLabeled}
use Rattle.dg_label.specs.Seals.{HasNoGood}
use Rattle.dg_label.specs.declared.labels.KeptLabel.{KeptLabel}
use Rattle.dg_model.specs.Members.{partner_of}
use Rattle.dg_model.specs.Seals.{HoldsLabel, LastLabel, forgotten, keeps_label as has_label}
use Rattle.dg_model.specs.declared.members.MemberState.TheVariants.{Out}
use Rattle.dg_model.specs.declared.shapes.Shape.{Shape}
use Rattle.dg_store.specs.Stores.{IsSound, members_of, rack_of, shape_of}
use Rattle.dg_store.specs.declared.store.Store.{Store}
use Rattle.dg_volume.proofs.LabelLaws.{here_filling}

module _ {R : Type 0} (rack : Ghosts R) (store : Store R) (sound : IsSound rack store) (none : HasNoGood store) where
  -- each is out: a member that is refilled has a good partner
  pub out_each : (q : ℕ) → members_of store q ≢ Out → ⊥
  out_each q here = false≢true (sym (none (partner_of q)) ∙ sound.paired q (here_filling (members_of store q) here (none q)))

  pub label_forgotten : (line : Shape) (old : Store R) (label : Option KeptLabel) (last : Option LastLabel) → shape_of store ≡ shape_of old → StandsLabeled rack line old label last
      → StandsLabeled rack line store label (option_map forgotten last)
  label_forgotten line old label last shape stands = record {
    kept = kept_of last label stands.kept;
    holds = held last;
    sizes = sized last;
    of_array = of_last last stands.of_array;
    filling = λ q fills. lacks last q;
    fresh = λ q below here lacking. absurd (out_each q here);
  }
    where
      kept_of : (last : Option LastLabel) (kept : Option KeptLabel) → IsKeptOf last kept → IsKeptOf (option_map forgotten last) kept
      kept_of None None is = tt
      kept_of None (Some k) is = absurd is
      kept_of (Some l) None is = absurd is
      kept_of (Some l) (Some k) is = record { format = is.format; sequence = is.sequence; sealed = is.sealed; body = is.body }

      held : (last : Option LastLabel) → IfSome (option_map forgotten last) (λ l. HoldsLabel l (rack.bytes (rack_of store)))
      held None = tt
      held (Some l) = record { label = λ q keeps. absurd (false≢true keeps); body = λ q keeps sealed. absurd (false≢true keeps) }

      sized : (last : Option LastLabel) → IfSome (option_map forgotten last) (λ l. l.shape ≡ line → AreSized rack store l)
      sized None = tt
      sized (Some l) = λ named q keeps. absurd (false≢true keeps)

      of_last : (last : Option LastLabel) → IfSome last (IsOfBoundariesInUse line (shape_of old)) → IfSome (option_map forgotten last) (IsOfBoundariesInUse line (shape_of store))
      of_last None of = tt
      of_last (Some l) of = λ why.
          let is = of (elim why [ inl sealed ↦ inl sealed | inr same ↦ inr (sym shape ∙ same) ]) in
          record { shape_is = is.shape_is ∙ sym shape; numbers_are = is.numbers_are }

      lacks : (last : Option LastLabel) (q : ℕ) → has_label (option_map forgotten last) q ≡ false
      lacks None q = refl
      lacks (Some l) q = refl
