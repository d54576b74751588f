-- All boundaries of an array are in use and no block was cut: so it stays in each step of the events that have views.
use Rattle.std.proofs.Common.{◌≡◌, ◌∙◌, ◌<◌, ◌+◌, ◌*◌, ◌||◌, ℕ, Bool, false, List, [], ◌∷◌, refl, ap, inl, inr}
use Rattle.std.specs.Prelude.{All, replicate, slice_set}
use Rattle.std.specs.List.{list_any}
use Rattle.std.proofs.lemmas.List.Elements.{All-head, All-tail}
use Rattle.dg_model.proofs.LineLaws.{gone_by_sites, none_unmarked, place_whole}
use Rattle.dg_model.proofs.StepLaws.{StayInUse, StaysInUse}
use Rattle.dg_model.specs.Changes.{Stays}
use Rattle.dg_model.specs.Lives.{all_live, place_in}
use Rattle.dg_model.specs.Marks.{is_marked}
use Rattle.dg_model.specs.Sites.{is_gone}
use Rattle.dg_model.specs.States.{Counts, IsBlank, State, gone_in}
use Rattle.dg_model.specs.Steps.{Step, member_of}
use Rattle.dg_model.specs.declared.events.Event.{Event}
use Rattle.dg_model.specs.declared.events.Event.TheVariants.{Write, Read, Fail, Cat, Ls}
use Rattle.dg_model.specs.declared.replies.Reply.{Reply}
use Rattle.dg_model.specs.declared.replies.Reply.TheVariants.{Done, Range, Degraded, Unavailable, Already, Data, Given, Cut, Listed as ListedReply, ListedCut, Refused}
use Rattle.dg_model.specs.declared.shapes.Shape.{Shape}
use Rattle.dg_uses.specs.Views.{any_gone_in, core_of, is_gone_in}

-- the events that have views
abbrev pub IsViewed : Event → Type 0
IsViewed (Write b bytes) = Unit {0}
IsViewed (Read b) = Unit {0}
IsViewed (Fail s j) = Unit {0}
IsViewed (Cat path) = Unit {0}
IsViewed (Ls path) = Unit {0}
IsViewed event = ⊥

-- all boundaries of an array of this shape are in use, and no block was cut
pub record InUse (shape : Shape) (state : State) : Type 0 where
  pub boundaries : state.boundaries ≡ shape.b
  pub live : state.live ≡ all_live shape.b
  pub cut : state.cut ≡ replicate shape.n false

-- ---- what is gone, and where a member is

module _ (shape : Shape) (state : State) (in_use : InUse shape state) where
  -- a block is gone where its sites are
  pub gone_is : (b : ℕ) → gone_in state b ≡ is_gone_in (core_of state) b
  gone_is b =
      let gone : Bool = is_gone state.table state.members b in
      ap (λ (l : List Bool). gone || is_marked l b) in_use.cut ∙ gone_by_sites gone shape.n b

  pub any_gone_is : (needs : List ℕ) → list_any (gone_in state) needs ≡ any_gone_in (core_of state) needs
  any_gone_is [] = refl
  any_gone_is (b ∷ needs) =
      ap (λ (x : Bool). x || list_any (gone_in state) needs) (gone_is b)
      ∙ ap (λ (x : Bool). is_gone_in (core_of state) b || x) (any_gone_is needs)

  -- a member has the place that its boundary's number says
  pub member_here : (s j : ℕ) → s < shape.b → member_of state s j ≡ 2 * s + j
  member_here s j low = ap (λ (p : ℕ). 2 * p + j) (ap (λ (l : List ℕ). place_in l s) in_use.live ∙ place_whole shape.b s low)

-- ---- steps

module _ (shape : Shape) (old new : State) (was : InUse shape old) where
  pub in_use_same : new ≡ old → InUse shape new
  in_use_same e = record {
    boundaries = ap (λ (s : State). s.boundaries) e ∙ was.boundaries;
    live = ap (λ (s : State). s.live) e ∙ was.live;
    cut = ap (λ (s : State). s.cut) e ∙ was.cut;
  }

  -- of a state of which these are as in the old one
  pub in_use_as : new.boundaries ≡ old.boundaries → new.live ≡ old.live → new.cut ≡ old.cut → InUse shape new
  in_use_as boundaries live cut = record { boundaries = boundaries ∙ was.boundaries; live = live ∙ was.live; cut = cut ∙ was.cut }

  pub in_use_stays : Stays old new → InUse shape new
  in_use_stays h = in_use_as (ap (λ (s : State). s.boundaries) h.rest) (ap (λ (s : State). s.live) h.rest) (ap (λ (s : State). s.cut) h.rest)

  -- a write clears the mark of its block
  pub in_use_wrote : (b : ℕ) → new.boundaries ≡ old.boundaries → new.live ≡ old.live → new.cut ≡ slice_set old.cut b false → InUse shape new
  in_use_wrote b boundaries live cut = record {
    boundaries = boundaries ∙ was.boundaries;
    live = live ∙ was.live;
    cut = cut ∙ ap (λ (l : List Bool). slice_set l b false) was.cut ∙ none_unmarked shape.n b;
  }

  module _ (Known : Type 0) where
    write_in_use : (b : ℕ) (bytes : List ℕ) (reply : Reply) → Step Known old (Write b bytes) reply new → InUse shape new
    write_in_use b bytes Range h = in_use_same h.1
    write_in_use b bytes Degraded h = elim h.1 [ inl same ↦ in_use_same same.1 | inr now ↦ in_use_stays now.3 ]
    write_in_use b bytes Done h =
        in_use_wrote b (ap (λ (s : State). s.boundaries) h.2.rest) (ap (λ (s : State). s.live) h.2.rest) (ap (λ (s : State). s.cut) h.2.rest)
    write_in_use b bytes reply h = absurd h

    read_in_use : (b : ℕ) (reply : Reply) → Step Known old (Read b) reply new → InUse shape new
    read_in_use b Range h = in_use_same h.1
    read_in_use b Unavailable h = in_use_stays h.3
    read_in_use b (Data bytes) h = in_use_stays h.5
    read_in_use b reply h = absurd h

    fail_in_use : (s j : ℕ) (reply : Reply) → Step Known old (Fail s j) reply new → InUse shape new
    fail_in_use s j Range h = in_use_same h.1
    fail_in_use s j Already h = in_use_same h.2
    fail_in_use s j Done h =
        in_use_as (ap (λ (s : State). s.boundaries) h.2.rest) (ap (λ (s : State). s.live) h.2.rest) (ap (λ (s : State). s.cut) h.2.rest)
    fail_in_use s j reply h = absurd h

    cat_in_use : (path : List ℕ) (reply : Reply) → Step Known old (Cat path) reply new → InUse shape new
    cat_in_use path (Given lines) h =
        in_use_as (ap (λ (s : State). s.boundaries) h.2.rest) (ap (λ (s : State). s.live) h.2.rest) (ap (λ (s : State). s.cut) h.2.rest)
    cat_in_use path (Refused refusal) h = in_use_stays h.1
    cat_in_use path Unavailable h = in_use_stays h.1
    cat_in_use path (Cut lines) h = in_use_stays h.3
    cat_in_use path reply h = absurd h

    ls_in_use : (path : List ℕ) (reply : Reply) → Step Known old (Ls path) reply new → InUse shape new
    ls_in_use path (ListedReply entries) h = in_use_stays h.1
    ls_in_use path (Refused refusal) h = in_use_stays h.1
    ls_in_use path Unavailable h = in_use_stays h.1
    ls_in_use path (ListedCut entries) h = in_use_stays h.2
    ls_in_use path reply h = absurd h

    pub in_use_next : (event : Event) (reply : Reply) → IsViewed event → Step Known old event reply new → InUse shape new
    in_use_next (Write b bytes) reply viewed h = write_in_use b bytes reply h
    in_use_next (Read b) reply viewed h = read_in_use b reply h
    in_use_next (Fail s j) reply viewed h = fail_in_use s j reply h
    in_use_next (Cat path) reply viewed h = cat_in_use path reply h
    in_use_next (Ls path) reply viewed h = ls_in_use path reply h
    in_use_next event reply viewed h = absurd viewed

pub in_use_blank : (shape : Shape) (before : Counts) (state : State) → IsBlank shape before state → InUse shape state
in_use_blank shape before state blank = record {
  boundaries = ap (λ (s : State). s.boundaries) blank.is;
  live = ap (λ (s : State). s.live) blank.is;
  cut = ap (λ (s : State). s.cut) blank.is;
}

-- ---- none of these events takes a boundary out of use

pub viewed_stays : (event : Event) (reply : Reply) → IsViewed event → StaysInUse event reply
viewed_stays (Write b bytes) reply viewed = tt
viewed_stays (Read b) reply viewed = tt
viewed_stays (Fail s j) reply viewed = tt
viewed_stays (Cat path) reply viewed = tt
viewed_stays (Ls path) reply viewed = tt
viewed_stays event reply viewed = absurd viewed

pub viewed_stay : (events : List Event) (replies : List Reply) → All IsViewed events → StayInUse events replies
viewed_stay [] replies viewed = tt
viewed_stay (event ∷ events) [] viewed = tt
viewed_stay (event ∷ events) (reply ∷ replies) viewed =
    (viewed_stays event reply (All-head IsViewed event events viewed), viewed_stay events replies (All-tail IsViewed event events viewed))
