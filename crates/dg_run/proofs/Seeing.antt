-- What calls of an opening, made by the places of the boundaries in use, leave of the rack below and of that of the run.
use Rattle.std.proofs.Common.{◌≡◌, ◌∙◌, ◌+◌, ◌*◌, ◌/◌, ◌%◌, ◌<◌, ℕ, true, List, ap, arith, length, refl, slice_index, subst, sym}
use Rattle.std.proofs.lemmas.Bool.{lt-ltb}
use Rattle.std.proofs.lemmas.Bool.Decides.{nat_tests}
use Rattle.dg_io.specs.Makes.{Makes}
use Rattle.dg_io.specs.Makes.Makes.{nothing as made_nothing, after as made_after}
use Rattle.dg_io.specs.RackCalls.{Each, IsNoBlank, IsNotOn, RackCall}
use Rattle.dg_io.specs.RackCalls.RackCall.{blanks, calls, extends, looks}
use Rattle.dg_io.specs.declared.outside.Rack.{Ghosts}
use Rattle.dg_model.specs.Lives.{member_at}
use Rattle.dg_open.specs.Reopenings.{IsCallOfOpening}
use Rattle.dg_regroup.specs.FrontMade.{IsNoExtend}
use Rattle.dg_regroup.specs.LiveGhosts.{live}
use Rattle.dg_regroup.specs.LiveMade.{call_below, calls_below, is_passed}
use Rattle.dg_regroup.specs.LivePlaces.{each_below}
use Rattle.dg_regroup.specs.LiveRacks.{is_there, live_in, rack_in}
use Rattle.dg_regroup.specs.declared.live_racks.LiveRack.{LiveRack}

-- a call that looks for a member of one of these boundaries, or reads or writes it
pub record IsAmong (numbers : List ℕ) (q : ℕ) : Type 0 where
  pub place : ℕ
  pub low : place / 2 < length numbers
  pub is : q ≡ member_at numbers place

abbrev pub IsCallAmong : List ℕ → RackCall → Type 0
IsCallAmong numbers (looks q) = IsAmong numbers q
IsCallAmong numbers (blanks q) = ⊥
IsCallAmong numbers (calls q) = IsAmong numbers q
IsCallAmong numbers (extends q) = ⊥

-- what they leave: the boundaries in use are the same, and the rack below got such calls
pub record Opened {R : Type 0} (rack : Ghosts R) (start now : LiveRack R) : Type 0 where
  pub live_is : live_in now ≡ live_in start
  pub made : Makes rack (IsCallAmong (live_in start)) (rack_in start) (rack_in now)

there_low : (numbers : List ℕ) (q : ℕ) → is_there numbers q ≡ true → q / 2 < length numbers
there_low numbers q there = grind (arith, nat_tests)

pub low_there : (numbers : List ℕ) (q : ℕ) → q / 2 < length numbers → is_there numbers q ≡ true
low_there numbers q low = lt-ltb (q / 2) (length numbers) low

among : (numbers : List ℕ) (call : RackCall) → is_passed numbers call ≡ true → IsCallOfOpening call → IsCallAmong numbers (call_below numbers call)
among numbers (looks q) there low = record { place = q; low = there_low numbers q there; is = refl }
among numbers (blanks q) there low = absurd low
among numbers (calls q) there low = record { place = q; low = there_low numbers q there; is = refl }
among numbers (extends q) there low = absurd low

module _ {R : Type 0} (rack : Ghosts R) where
  pub opened_of : (start now : LiveRack R) → Makes (live rack) IsCallOfOpening start now → Opened rack start now
  opened_of start now (made_nothing same) = subst (λ (s : LiveRack R). Opened rack start s) (sym same) (record { live_is = refl; made = made_nothing refl })
  opened_of start now (made_after {b = mid} first only) =
      let was = opened_of start mid first in
      let numbers = live_in mid in
      let same_live : live_in now ≡ numbers = λ i. (only.made.live i).items in
      record {
        live_is = same_live ∙ was.live_is;
        made = made_after was.made (record {
          calls = calls_below numbers only.calls;
          each = subst (λ (l : List ℕ). Each (IsCallAmong l) (calls_below numbers only.calls)) was.live_is
              (each_below numbers IsCallOfOpening (IsCallAmong numbers) (λ call there is. among numbers call there is) only.calls only.each);
          made = only.made.below;
        });
      }

  -- a member that is there has the bytes and the count of the rack below
  pub bytes_at : (it : LiveRack R) (numbers : List ℕ) → live_in it ≡ numbers → (q : ℕ) → q / 2 < length numbers → (live rack).bytes it q ≡ rack.bytes (rack_in it) (member_at numbers q)
  bytes_at it numbers same q low =
      let there : is_there (live_in it) q ≡ true = subst (λ (l : List ℕ). is_there l q ≡ true) (sym same) (low_there numbers q low) in
      at there ∙ ap (λ (l : List ℕ). rack.bytes (rack_in it) (member_at l q)) same where
        at : is_there (live_in it) q ≡ true → (live rack).bytes it q ≡ rack.bytes (rack_in it) (member_at (live_in it) q)
        at there = rw there refl

  pub faults_at : (it : LiveRack R) (numbers : List ℕ) → live_in it ≡ numbers → (q : ℕ) → q / 2 < length numbers
      → ((live rack).counts it).faults q ≡ (rack.counts (rack_in it)).faults (member_at numbers q)
  faults_at it numbers same q low =
      let there : is_there (live_in it) q ≡ true = subst (λ (l : List ℕ). is_there l q ≡ true) (sym same) (low_there numbers q low) in
      at there ∙ ap (λ (l : List ℕ). (rack.counts (rack_in it)).faults (member_at l q)) same where
        at : is_there (live_in it) q ≡ true → ((live rack).counts it).faults q ≡ (rack.counts (rack_in it)).faults (member_at (live_in it) q)
        at there = rw there refl

-- such a call makes no member anew and extends none, and is on none below whose boundary isn't among these
pub no_blank : (numbers : List ℕ) (call : RackCall) → IsCallAmong numbers call → IsNoBlank call
no_blank numbers (looks q) is = tt
no_blank numbers (blanks q) is = absurd is
no_blank numbers (calls q) is = tt
no_blank numbers (extends q) is = absurd is

pub no_extend : (numbers : List ℕ) (call : RackCall) → IsCallAmong numbers call → IsNoExtend call
no_extend numbers (looks q) is = tt
no_extend numbers (blanks q) is = absurd is
no_extend numbers (calls q) is = tt
no_extend numbers (extends q) is = absurd is

half : (n q : ℕ) → (2 * n + q % 2) / 2 ≡ n
half n q = omega arith

pub not_on : (numbers : List ℕ) (p : ℕ) → ((x : ℕ) → x < length numbers → slice_index numbers x ≡ p / 2 → ⊥) → (call : RackCall) → IsCallAmong numbers call → IsNotOn p call
not_on numbers p none (looks q) is = λ same. none (is.place / 2) is.low (omega (arith, same, is.is, half (slice_index numbers (is.place / 2)) is.place))
not_on numbers p none (blanks q) is = absurd is
not_on numbers p none (calls q) is = λ same. none (is.place / 2) is.low (omega (arith, same, is.is, half (slice_index numbers (is.place / 2)) is.place))
not_on numbers p none (extends q) is = absurd is
