-- What readers in a row consulted.
use Rattle.std.proofs.Common.{ℕ, List, [], ◌∷◌, ◌++◌, Option, refl}
use Rattle.dg_io.specs.ViewWords.{Keeps}
use Rattle.dg_io.specs.declared.views.View.{Ghosts}
use Rattle.ufs_model.specs.Blocks.{Volume, Reading}
use Rattle.ufs_pointer.specs.Fetches.{Fetches, IsNeeded, LosesOne}
use Rattle.ufs_pointer.specs.KindLaws.{loses_along, only_along, only_both, only_none, only_of, only_once}
use Rattle.ufs_path.specs.Consults.{ConsultsKind}

-- no block
pub consults_none : {S : Type 0} (view : Ghosts S) (s : S) (stands : Volume → Type 0) (kind : Volume → ℕ → Type 0) {lost : Type 0} → view.fetched s [] s → (lost → ⊥)
    → ConsultsKind view s s stands kind lost
consults_none view s stands kind none never = record { fetched = only_none kind s none; cause = λ h. absurd (never h) }

-- what was consulted is of another kind, on fewer volumes
pub consults_along : {S : Type 0} (view : Ghosts S) {old new : S} {stands still : Volume → Type 0} {kind other : Volume → ℕ → Type 0} {lost given : Type 0}
    → (view.tells new → (v : Volume) → stands v → still v × ((b : ℕ) → other v b → kind v b)) → (lost → given)
    → ConsultsKind view old new still other given → ConsultsKind view old new stands kind lost
consults_along view along from one = record {
  fetched = only_along along one.fetched;
  cause = λ h. loses_along refl (λ b gone. gone) (λ is. is) along (one.cause (from h));
}

-- some blocks, and then others
pub consults_both : {S : Type 0} (view : Ghosts S) {old middle new : S} {stands still : Volume → Type 0} {kind other : Volume → ℕ → Type 0} {first lost given : Type 0}
    → ((s t u : S) (x y : List ℕ) → view.fetched s x t → view.fetched t y u → view.fetched s (x ++ y) u)
    → Keeps view old middle → Keeps view middle new → (view.tells new → (v : Volume) → stands v → still v × ((b : ℕ) → other v b → kind v b)) → (lost → given)
    → ConsultsKind view old middle stands kind first → ConsultsKind view middle new still other given → ConsultsKind view old new stands kind lost
consults_both view both one two along from first second = record {
  fetched = only_both both two.told along first.fetched second.fetched;
  cause = λ h. loses_along one.blocks (λ b gone. gone) (λ is. is) along (second.cause (from h));
}

-- what was fetched for a reading
pub consults_fetches : {S A : Type 0} (view : Ghosts S) {old new : S} {d : Reading A} {r : Option A} {kind : Volume → ℕ → Type 0} {lost : Type 0}
    → ((v : Volume) (b : ℕ) → IsNeeded d v b → kind v b)
    → (lost → LosesOne (view.stands_for old) (view.tells new) (view.count old) (IsNeeded d) (view.is_gone new))
    → Fetches view.fetched (view.stands_for old) (view.tells new) d r old new → ConsultsKind view old new (view.stands_for old) kind lost
consults_fetches view {kind = kind} each cause fetches = record {
  fetched = only_of kind (λ v holds b h. each v b h) fetches;
  cause = λ h. loses_along refl (λ b gone. gone) (λ is. is) (λ is v holds. (holds, each v)) (cause h);
}

-- one block
pub consults_once : {S : Type 0} (view : Ghosts S) {old new : S} (block : ℕ) (stands : Volume → Type 0) (kind : Volume → ℕ → Type 0) {lost : Type 0}
    → ((v : Volume) → kind v block) → (lost → LosesOne stands (view.tells new) (view.count old) kind (view.is_gone new))
    → view.fetched old (block ∷ []) new → ConsultsKind view old new stands kind lost
consults_once view block stands kind is cause once = record { fetched = only_once kind (λ v holds. is v) once; cause = cause }
