-- What reading bytes has shown of them.
use Rattle.std.proofs.Common.{◌≡◌, ◌∙◌, ◌++◌, ℕ, List, sym, ap, subst}
use Rattle.std.specs.List.Sorted.{IsStrictlyIncreasing}
use Rattle.dg_regroup.proofs.ExtraLemmas.{front_once, numbers_once, says_front, says_numbers}
use Rattle.dg_regroup.specs.ExtraBytes.{HasNoExtra, HasNoFront, HasNoNumbers, SaysFront, SaysNumbers}
use Rattle.dg_regroup.specs.Extras.{IsExtra, MayBeLive, extra_bytes, front_bytes, numbers_bytes}
use Rattle.dg_regroup.specs.declared.extras.Extra.{Extra}

pub no_front : (bytes : List ℕ) → HasNoFront bytes → HasNoExtra bytes
no_front bytes none extra is says = none extra.length extra.boundaries extra.live (numbers_bytes extra.cut) (says_front bytes extra is says)

module _ (bytes : List ℕ) (size boundaries : ℕ) (live rest : List ℕ) (front : SaysFront bytes size boundaries live rest) where
  pub not_live : (MayBeLive boundaries live → ⊥) → HasNoExtra bytes
  not_live none extra is says =
      let one = front_once bytes size extra.length boundaries extra.boundaries live extra.live rest (numbers_bytes extra.cut) front (says_front bytes extra is says) in
      none (rw (one.boundaries_are, one.live_are) is.boundaries)

  cut_says : (extra : Extra) → IsExtra extra → bytes ≡ extra_bytes extra → SaysNumbers rest extra.cut
  cut_says extra is says =
      let one = front_once bytes size extra.length boundaries extra.boundaries live extra.live rest (numbers_bytes extra.cut) front (says_front bytes extra is says) in
      let cut = says_numbers extra is in record { short = cut.short; fit = cut.fit; says = one.rest_is }

  pub no_numbers : HasNoNumbers rest → HasNoExtra bytes
  no_numbers none extra is says = none extra.cut (cut_says extra is says)

  pub not_ascending : (cut : List ℕ) → SaysNumbers rest cut → (IsStrictlyIncreasing cut → ⊥) → HasNoExtra bytes
  not_ascending cut numbers none extra is says =
      let same : cut ≡ extra.cut = numbers_once rest cut extra.cut numbers (cut_says extra is says) in
      none (subst IsStrictlyIncreasing (sym same) is.ascend)

  pub is_extra : (cut : List ℕ) → SaysNumbers rest cut → MayBeLive boundaries live → IsStrictlyIncreasing cut
      → IsExtra (record { length = size; boundaries = boundaries; live = live; cut = cut })
  is_extra cut numbers may ascend = record { size = front.fits; boundaries = may; few = numbers.short; blocks = numbers.fit; ascend = ascend }

  pub says_extra : (cut : List ℕ) → SaysNumbers rest cut → bytes ≡ extra_bytes (record { length = size; boundaries = boundaries; live = live; cut = cut })
  says_extra cut numbers = front.says ∙ ap (λ (xs : List ℕ). front_bytes size boundaries live ++ xs) numbers.says
