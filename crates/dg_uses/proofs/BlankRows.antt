-- What is printed of an image of no bytes, and of members without bytes.
use Rattle.std.proofs.Common.{◌≡◌, ◌≤◌, ◌<◌, ◌∙◌, ◌∷◌, [], ℕ, zero, suc, List, ap, arith, inl, inr, refl, subst, sym}
use Rattle.std.specs.Prelude.{◌⊎◌, Option, Some, None, IfSome, IsSome, codes}
use Rattle.std.specs.Fmt.{digits}
use Rattle.dg_io.specs.Told.{IsSame, Told, Took}
use Rattle.dg_model.specs.Causes.{Rose}
use Rattle.dg_model.specs.Openings.{Found, HasOwnLabel}
use Rattle.dg_model.specs.Saves.{Label, label_bytes}
use Rattle.dg_open.specs.Founds.{AreRead, IsRead}
use Rattle.dg_run.specs.Completes.{IsUnopened}
use Rattle.dg_run.specs.Ends.{EndsSaved, EndsTrace, FindsStatus}
use Rattle.dg_run.specs.declared.top.Status.{Status}
use Rattle.dg_run.specs.declared.top.Status.TheVariants.{Done, NoMemory, NoState, Refused}
use Rattle.dg_saved.specs.Calls.{Facts}
use Rattle.dg_saved.specs.Ends.{EndsStatus}
use Rattle.dg_saved.specs.Saved.{FoundUnclean, HasShown, had}
use Rattle.dg_saved.specs.Texts.{nostate_text}
use Rattle.dg_uses.proofs.Headers.{none_there, saved_plain}
use Rattle.dg_trace.specs.Answers.{IsInSize, IsRefused, refusal_text}
use Rattle.dg_trace.specs.Calls as traces
use Rattle.dg_trace.specs.Images.{GaveImage}
use Rattle.dg_trace.specs.declared.asked.Asked.{Asked}
use Rattle.dg_trace.specs.declared.asked.TraceRefusal.{TraceRefusal}
use Rattle.dg_trace.specs.declared.asked.TraceRefusal.TheVariants.{Length, Limits, Super}
use Rattle.dg_words.specs.Commands.{words_of}
use Rattle.dg_words.specs.declared.commands.Command.TheVariants.{Trace}
use Rattle.dg_words.specs.declared.commands.Order.TheVariants.{Up}

pub words_are : codes "trace" ∷ codes "up" ∷ codes "4" ∷ codes "64" ∷ codes "2" ∷ [] ≡ words_of (Trace Up 4 64 2)
unfolding digits
words_are = refl

-- a count that stands at 0 didn't rise
pub none_rose : Rose 0 0 → ⊥
none_rose rose = omega (arith, rose)

-- no bytes are too few
no_size : IsInSize [] → ⊥
no_size size = let least = size.least in absurd (omega (arith, least))

pub no_bytes : (asked : Asked) → IsRefused asked [] Length
no_bytes asked = inl no_size

front_none : (image rest : List ℕ) → GaveImage image [] rest → image ≡ []
front_none [] rest gave = refl
front_none (x ∷ image) rest gave = absurd (cc (gave.split))

-- and are refused for nothing else
refused_for : (asked : Asked) (refusal : TraceRefusal) → IsRefused asked [] refusal → refusal ≡ Length
refused_for asked Length is = refl
refused_for asked (Super bad) is = absurd (no_size is.0)
refused_for asked Limits is = absurd (no_size is.1.has.size)

-- what the source had and has left, and what the sink had taken and has been given
abbrev streams : Option (List ℕ) → Option (List ℕ) → Option (List ℕ) → Option (List ℕ) → traces.Facts
streams left rest taken given = record { left = left; rest = rest; taken = taken; given = given }

-- what stands in a sink that took this text, where it tells it
pub took : (given : Option (List ℕ)) (text printed : List ℕ) → Told (Took text) (Some []) given → given ≡ Some printed → printed ≡ text
took None text printed told is = absurd (cc is)
took (Some all) text printed told is = let same : all ≡ printed = cc is in sym same ∙ told

image_printed : (asked : Asked) (image rest : List ℕ) (refusal : TraceRefusal) (given : Option (List ℕ)) (printed : List ℕ) → GaveImage image [] rest
    → IsRefused asked image refusal → Told (Took (refusal_text refusal)) (Some []) given → given ≡ Some printed → printed ≡ codes "bad length\n"
image_printed asked image rest refusal given printed gave refused told is =
    let none = front_none image rest gave in
    let why = refused_for asked refusal (subst (λ (l : List ℕ). IsRefused asked l refusal) none refused) in
    took given (refusal_text refusal) printed told is ∙ ap refusal_text why

refused_ends : (asked : Asked) (rest : List ℕ) (given : Option (List ℕ)) (printed : List ℕ) → EndsTrace (streams (Some []) (Some rest) (Some []) given) asked Refused
    → given ≡ Some printed → printed ≡ codes "bad length\n"
refused_ends asked rest given printed ends is =
    image_printed asked ends.1.image rest ends.0 given printed ends.1.read ends.1.ends.is ends.1.ends.output is

-- a trace of no bytes that is refused prints this, where source and sink tell their bytes
pub refusal_printed : (asked : Asked) (left : Option (List ℕ)) (rest : List ℕ) (taken given : Option (List ℕ)) (status : Status) (printed : List ℕ) → left ≡ Some []
    → taken ≡ Some [] → status ≡ Refused → EndsTrace (streams left (Some rest) taken given) asked status → given ≡ Some printed → printed ≡ codes "bad length\n"
refusal_printed asked left rest taken given status printed none empty refused ends is =
    let one = subst (λ (s : Status). EndsTrace (streams left (Some rest) taken given) asked s) refused ends in
    let two = subst (λ (l : Option (List ℕ)). EndsTrace (streams l (Some rest) taken given) asked Refused) none one in
    let three = subst (λ (t : Option (List ℕ)). EndsTrace (streams (Some []) (Some rest) t given) asked Refused) empty two in
    refused_ends asked rest given printed three is

-- ---- members without bytes

-- they begin with no label
no_label : (q : ℕ) (label : Label) → HasOwnLabel q [] label → ⊥
unfolding label_bytes
no_label q label own = absurd (cc own.begins.bytes)

-- of them nothing is taken
none_taken : (taken : ℕ → Option Found) (q before now : ℕ) (found : Option Found) → IsRead taken q before now [] found → found ≡ None
none_taken taken q before now None read = refl
none_taken taken q before now (Some found) read = absurd (no_label q found.label read.0)

le_or_lt : (a b : ℕ) → (a ≤ b) ⊎ (b < a)
le_or_lt zero b = inl (omega arith)
le_or_lt (suc a) zero = inr (omega arith)
le_or_lt (suc a) (suc b) = elim (le_or_lt a b) [ inl low ↦ inl (omega (arith, low)) | inr high ↦ inr (omega (arith, high)) ]

module _ (bytes : ℕ → Option (List ℕ)) (before now : ℕ → ℕ) (taken : ℕ → Option Found) (read : AreRead bytes before now taken)
    (empty : (q : ℕ) → bytes q ≡ Some []) where
  taken_below : (q : ℕ) → q < 32 → taken q ≡ None
  taken_below q low =
      none_taken taken q (before q) (now q) (taken q)
      (subst (λ (o : Option (List ℕ)). IfSome o (λ all. IsRead taken q (before q) (now q) all (taken q))) (empty q) (read.each q low))

  taken_by : (q : ℕ) → (32 ≤ q) ⊎ (q < 32) → taken q ≡ None
  taken_by q (inl high) = read.others q high
  taken_by q (inr low) = taken_below q low

  pub none_at : (q : ℕ) (found : Found) → taken q ≡ Some found → ⊥
  none_at q found there = let e : None ≡ Some found = sym (taken_by q (le_or_lt 32 q)) ∙ there in cc e

-- the members had no bytes, and tell what they have
pub record AreBlank (facts : Facts) : Type 0 where
  pub empty : (q : ℕ) → facts.images q ≡ Some []
  pub told : (q : ℕ) → IsSome (facts.bytes q)

module _ (facts : Facts) (blank : AreBlank facts) where
  had_none : (image all : Option (List ℕ)) → image ≡ Some [] → IsSome all → had image all ≡ Some []
  had_none image (Some all) is some = is
  had_none image None is some = absurd (cc some)

  same_none : (image all : Option (List ℕ)) → image ≡ Some [] → IsSome all → Told IsSame image all → all ≡ Some []
  same_none (Some before) (Some now) is some same = ap Some same ∙ is
  same_none None (Some now) is some same = absurd same
  same_none image None is some same = absurd (cc some)

  no_source : (tells : ℕ → Type 0) (text : List ℕ) → HasShown tells facts text → ⊥
  no_source tells text shown =
      let source = shown.source in
      none_at (λ (q : ℕ). had (facts.images q) (facts.bytes q)) facts.before.faults facts.now.faults source.taken source.read
      (λ q. had_none (facts.images q) (facts.bytes q) (blank.empty q) (blank.told q)) source.source _ source.is_source.newest.there

  not_unclean : FoundUnclean facts → ⊥
  not_unclean found =
      let looked = found.looked in
      none_at facts.bytes facts.before.faults facts.now.faults looked.taken looked.read
      (λ q. same_none (facts.images q) (facts.bytes q) (blank.empty q) (blank.told q) (looked.same q)) found.unclean.q _ found.unclean.newest.there

  -- no member has a header
  ends_plain : (tells : ℕ → Type 0) (taken given : Option (List ℕ)) (status : Status) → EndsSaved (FindsStatus tells facts) taken given status
      → EndsSaved (EndsStatus tells facts) taken given status
  ends_plain tells = saved_plain facts blank.told (λ q low. none_there q (facts.images q) (blank.empty q)) tells EndsStatus

-- so there is no array
pub blank_answer : (tells : ℕ → Type 0) (facts : Facts) (taken given : Option (List ℕ)) (status : Status) → AreBlank facts → EndsSaved (FindsStatus tells facts) taken given status
    → (status ≡ Done) ⊎ (IsUnopened status ⊎ (status ≡ NoMemory)) → (status ≡ NoState) ⊎ (status ≡ NoMemory)
blank_answer tells facts taken given status blank ends (inl done) =
    let shown = subst (λ (s : Status). EndsSaved (EndsStatus tells facts) taken given s) done (ends_plain facts blank tells taken given status ends) in
    absurd (no_source facts blank tells shown.0 shown.1)
blank_answer tells facts taken given status blank ends (inr (inl (inl none))) = inl none
blank_answer tells facts taken given status blank ends (inr (inl (inr unclean))) =
    let found = subst (λ (s : Status). EndsSaved (EndsStatus tells facts) taken given s) unclean (ends_plain facts blank tells taken given status ends) in
    absurd (not_unclean facts blank found.0)
blank_answer tells facts taken given status blank ends (inr (inr memory)) = inr memory

-- and this is printed, where the sink tells its bytes
pub no_state_printed : (tells : ℕ → Type 0) (facts : Facts) (status : Status) (printed : List ℕ) → AreBlank facts → facts.taken ≡ Some [] → status ≡ NoState
    → EndsSaved (FindsStatus tells facts) facts.taken facts.given status → facts.given ≡ Some printed → printed ≡ codes "nostate\n"
no_state_printed tells facts status printed blank empty none ends is =
    let found = subst (λ (s : Status). EndsSaved (EndsStatus tells facts) facts.taken facts.given s) none (ends_plain facts blank tells facts.taken facts.given status ends) in
    took facts.given nostate_text printed (subst (λ (t : Option (List ℕ)). Told (Took nostate_text) t facts.given) empty found.1) is
