-- What was handed on of a listing for which memory was wanting.
use Rattle.std.specs.Prelude.{◌≡◌, ◌⊎◌, ◌++◌, List}
use Rattle.dg_model.specs.declared.replies.Reply.{Reply}
use Rattle.dg_model.specs.declared.replies.Reply.TheVariants.{Nodes}
use Rattle.ufs_model.specs.Listings.{Listed}

-- nothing, or the first entries of a listing of all directories that holds as a reply
abbrev pub HandsLines : {C : Type 0} → (C → List Listed → C → Type 0) → C → C → (Reply → Type 0) → Type 0
HandsLines took old new holds = (new ≡ old) ⊎ ((entries : List Listed) × (rest : List Listed) × took old entries new × holds (Nodes (entries ++ rest)))
