-- The headers of a group: the next ones, and what was written.
use Rattle.std.proofs.Common.{◌≡◌, ◌≢◌, ℕ, ◌+◌, ◌<◌, ◌≤◌, ◌⊎◌, inl, inr, Bool, true, false, List, take, get_or, refl, sym, ap, subst, ◌∙◌, arith}
use Rattle.std.specs.Prelude.{IfSome}
use Rattle.std.proofs.lemmas.Bool.{cases_eq, false≢true}
use Rattle.dg_io.specs.declared.outside.Rack.{Ghosts}
use Rattle.dg_parity.specs.Headers.{header_bytes, marks_of}
use Rattle.dg_parity.specs.Groups.{disk_number, is_out, is_lost, AllTold, Holds, IsReady, IsLater, IsAlike, FellOne, HasHead, header_in, LeavesGroup}
use Rattle.dg_parity.specs.declared.groups.Group.{Group}
use Rattle.dg_parity.specs.declared.headers.Header.{Header}
use Rattle.dg_parity.proofs.GroupLemmas.{leaves-alike, in-before}
use Rattle.dg_parity.proofs.HoldLemmas.{holds-alike}
use Rattle.dg_parity.proofs.CallLemmas.{two-fell, told-back}
use Rattle.dg_parity.proofs.PageLemmas.{same_fields}

-- one disk more has its header
pub heads-more : {S : Type 0} (rack : Ghosts S) (a b : Group) (t u : S) (j i : ℕ) → b ≡ a → i < j + 1 → is_out b i ≡ false
    → ((k : ℕ) → k < j → is_out a k ≡ false → HasHead rack a t k) → (is_out a j ≡ false → HasHead rack a u j)
    → ((k : ℕ) → k ≢ j → HasHead rack a t k → HasHead rack a u k) → HasHead rack b u i
heads-more rack a b t u j i is lt in0 before own others =
    let in1 : is_out a i ≡ false = subst (λ (k : Group). is_out k i ≡ false) is in0 in
    subst (λ (k : Group). HasHead rack k u i) (sym is) (elim (cases_eq i j) [
      | inl same ↦ subst (λ (k : ℕ). HasHead rack a u k) (sym same) (own (subst (λ (k : ℕ). is_out a k ≡ false) same in1))
      | inr ne ↦ others i ne (before i (omega arith) in1)
    ])

-- the next headers are to be written
pub renewed : {S : Type 0} (rack : Ghosts S) (old new : Group) (now : S) → IsAlike old new → old.epoch ≤ new.epoch → new.noted ≡ false → IsReady rack old now → LeavesGroup rack old new now now
renewed rack old new now alike later noted ready =
    leaves-alike rack old new now alike later (λ h. absurd (false≢true (sym noted ∙ h))) (λ h. absurd (false≢true (sym noted ∙ h))) ready

header-alike : (a b : Group) (j : ℕ) → IsAlike a b → b.epoch ≡ a.epoch → header_in b j ≡ header_in a j
header-alike a b j h epoch =
    same_fields b.epoch a.epoch b.number a.number j j b.disks a.disks (marks_of (is_out b) 8) (marks_of (is_out a) 8) b.length a.length
    epoch h.number refl h.disks (ap (λ (l : List Bool). marks_of (λ i. get_or l i false) 8) h.out) h.size

head-alike : {S : Type 0} (rack : Ghosts S) (a b : Group) (u : S) (j : ℕ) → IsAlike a b → b.epoch ≡ a.epoch → HasHead rack a u j → HasHead rack b u j
head-alike rack a b u j h epoch head =
    subst (λ (s : ℕ). IfSome (rack.bytes u (disk_number s j)) (λ all. take 512 all ≡ header_bytes (header_in b j))) (sym h.number)
    (subst (λ (k : Header). IfSome (rack.bytes u (disk_number a.number j)) (λ all. take 512 all ≡ header_bytes k)) (sym (header-alike a b j h epoch)) head)

-- each header was written (group m, which is a), and the group says so (b)
pub settled : {S : Type 0} (rack : Ghosts S) (m a b : Group) (u : S) → a ≡ m → 1 ≤ m.epoch → IsAlike a b → b.epoch ≡ a.epoch
    → ((i : ℕ) → i < m.disks → is_out m i ≡ false → HasHead rack m u i) → IsReady rack a u → LeavesGroup rack a b u u
settled rack m a b u is first alike epoch heads ready =
    let own : (i : ℕ) → i < a.disks → is_out a i ≡ false → HasHead rack a u i =
    subst (λ (k : Group). (i : ℕ) → i < k.disks → is_out k i ≡ false → HasHead rack k u i) (sym is) heads in
    leaves-alike rack a b u alike (omega (arith, epoch)) (λ noted. omega (arith, epoch, first, ap (λ (k : Group). k.epoch) is))
    (λ noted i lt in0. head-alike rack a b u i alike epoch
    (own i (subst (λ (n : ℕ). i < n) alike.disks lt) (ap (λ (l : List Bool). get_or l i false) (sym alike.out) ∙ in0)))
    ready

pub settled-holds : {S : Type 0} (rack : Ghosts S) (old m a b : Group) (s u : S) (has : ℕ → ℕ → ℕ) → IsAlike old m → old.epoch ≤ m.epoch → IsAlike a b → a.epoch ≤ b.epoch
    → LeavesGroup rack a b u u → ((f : ℕ → ℕ → ℕ) → AllTold rack a u → Holds rack m s f → Holds rack a u f)
    → AllTold rack b u → Holds rack old s has → Holds rack b u has
settled-holds rack old m a b s u has first one second two leaves holds all held =
    holds-alike rack a b u has second two (holds has (told-back rack a b u u leaves all) (holds-alike rack old m s has first one held))

-- a disk went out after the headers were to be written
pub fell-alike : (old m new : Group) → IsAlike old m → FellOne m new → FellOne old new
fell-alike old m new h fell = record { disk = fell.disk; before = ap (λ (l : List Bool). get_or l fell.disk false) (sym h.out) ∙ fell.before; now = fell.now }

-- two rounds: the headers stand, or the group is lost
pub noted-now : (a b c : Group) → is_lost c ≡ false → IsLater b c → b.noted ≡ false → ((b.noted ≡ true) ⊎ FellOne a b) → ((c.noted ≡ true) ⊎ FellOne b c) → c.noted ≡ true
noted-now a b c alive later open0 (inl noted) second = absurd (false≢true (sym open0 ∙ noted))
noted-now a b c alive later open0 (inr one) (inl noted) = noted
noted-now a b c alive later open0 (inr one) (inr two) = absurd (false≢true (sym alive ∙ two-fell a b c later one two))

pub fell-then : (a b c : Group) (j : ℕ) → IsLater a b → ((is_out b j ≡ false) × (is_out c j ≡ true)) → FellOne a c
fell-then a b c j later h = record { disk = j; before = in-before a b j later h.0; now = h.1 }
