-- What was handed on of the lines of a whole volume.
use Rattle.std.proofs.Common.{◌≡◌, ◌∙◌, ℕ, ◌+◌, Bool, List, [], ◌∷◌, ◌++◌, Some, Result, Ok, Err, length, drop, refl, sym, ap, subst, inr}
use Rattle.std.specs.Prelude.{Contains}
use Rattle.std.specs.Option.{option_map}
use Rattle.std.proofs.lemmas.List.{length-append}
use Rattle.ufs_model.specs.Blocks.{Reading, Volume, bind, known}
use Rattle.ufs_model.specs.Listings.{Listed}
use Rattle.ufs_model.specs.Readings.{Continues, Grows, MeetsRule, ReadsAs, and_then, on_ok}
use Rattle.ufs_model.proofs.ReadingLaws.{begins, ends, ends_refused, goes_on}
use Rattle.ufs_model.specs.declared.geometries.Geometry.{Geometry}
use Rattle.ufs_model.specs.declared.inodes.Inode.{Inode}
use Rattle.ufs_model.specs.declared.reads.PathRefusal.{PathRefusal}
use Rattle.ufs_pointer.specs.Fetches.{IsNeeded}
use Rattle.ufs_path.proofs.NeedLaws.{leads_on, needs_first}
use Rattle.ufs_path.proofs.PartLaws.{after_front}
use Rattle.ufs_path.proofs.ReadsLaws.{answer_where, none_now, wider}
use Rattle.ufs_path.proofs.TreeLaws.{after, after_all, after_line, after_none, next_line}
use Rattle.ufs_path.specs.Answers.{IsAnswer, refusal_of}
use Rattle.ufs_path.specs.Consults.{Leads}
use Rattle.ufs_path.specs.Trees.{Begins, Branch, HandsFront, HandsSome, IsGrown, all_lines, line_of, opened}
use Rattle.ufs_path.specs.declared.faults.LookFault.{LookFault}
use Rattle.ufs_path.specs.declared.faults.CatAnswer.TheVariants.{Given, Cut, SinkFault}
use Rattle.ufs_path.specs.declared.walks.Walked.{Walked}
use Rattle.ufs_path.specs.declared.walks.Walked.TheVariants.{All, Unread, Failed}

-- ---- what is left of a reading

-- its answer is that of the whole
pub record Answers {A : Type 0} (stands : Volume → Type 0) (tells : Type 0) (whole rest : Reading A) : Type 0 where
  pub go : tells → (v : Volume) → stands v → (whole v).value ≡ (rest v).value

value_at : {A B R : Type 0} (x : Result A R) (f : A → Reading (Result B R)) (a : A) (v : Volume) → Ok a ≡ x → (on_ok x f v).value ≡ (f a v).value
value_at x f a v is = ap (λ r. (on_ok r f v).value) (sym is)

pub value_on : {A B R : Type 0} (d : Reading (Result A R)) (f : A → Reading (Result B R)) (a : A) (v : Volume) → Ok a ≡ (d v).value → (and_then d f v).value ≡ (f a v).value
unfolding and_then bind
value_on d f a v is = value_at ((d v).value) f a v is

-- What is left: whatever is read of it completes the whole, its answer is the whole's, and its blocks are needed.
pub record Remains {A : Type 0} (stands : Volume → Type 0) (before : ℕ → Bool) (tells : Type 0) (now : ℕ → Bool) (whole rest : Reading A) : Type 0 where
  pub reads : Continues stands before tells now whole rest
  pub answers : Answers stands tells whole rest
  pub leads : Leads stands tells whole rest

pub remains_all : {A : Type 0} (stands : Volume → Type 0) (before : ℕ → Bool) (tells : Type 0) (whole : Reading A) → Remains stands before tells before whole whole
remains_all stands before tells whole = record {
  reads = begins stands before tells whole;
  answers = record { go = λ is v holds. refl };
  leads = record { go = λ is v holds b h. h };
}

-- the same reading
pub remains_same : {A : Type 0} {stands : Volume → Type 0} {before : ℕ → Bool} {tells : Type 0} {now : ℕ → Bool} {whole one : Reading A} (other : Reading A)
    → ((v : Volume) → one v ≡ other v) → Remains stands before tells now whole one → Remains stands before tells now whole other
remains_same {now = now} other same so_far = record {
  reads = record { go = λ is v holds later result grows rule. so_far.reads.go is v holds later result grows (subst (λ c. MeetsRule now later c result) (sym (same v)) rule) };
  answers = record { go = λ is v holds. so_far.answers.go is v holds ∙ ap (λ c. c.value) (same v) };
  leads = record { go = λ is v holds b h. so_far.leads.go is v holds b (subst (λ c. Contains c.needs b) (sym (same v)) h) };
}

-- one more answer
pub remains_on : {A B R : Type 0} {stands still : Volume → Type 0} {tells told : Type 0} {before now later : ℕ → Bool} {whole : Reading (Result B R)} {d : Reading (Result A R)} (f : A → Reading (Result B R)) (a : A)
    → Grows now later → ((v : Volume) → stands v → still v) → (told → tells)
    → Remains stands before tells now whole (and_then d f) → ReadsAs still now told later d (Some (Ok a)) → Remains stands before told later whole (f a)
remains_on {d = d} f a grows keeps tell so_far one = record {
  reads = goes_on f a grows keeps tell so_far.reads one;
  answers = record { go = λ is v holds. so_far.answers.go (tell is) v holds ∙ value_on d f a v ((one.rule is v (keeps v holds)).answer) };
  leads = leads_on d f a keeps tell so_far.leads one;
}

-- ---- lines that were handed on

-- a front of the lines was handed on, so many, and what is left follows it
pub record Grew {S : Type 0} (took : S → List Listed → S → Type 0) (faults : S → ℕ) (old new : S) (stands : Volume → Type 0) (before : ℕ → Bool) (tells : Type 0) (now : ℕ → Bool)
    (whole rest : Reading (Result (List Listed) PathRefusal)) (n : ℕ) : Type 0 where
  pub done : List Listed
  pub count : length done ≡ n
  pub taken : took old done new
  pub stays : faults new ≡ faults old
  pub remains : Remains stands before tells now whole (after done rest)

pub grew_none : {S : Type 0} (took : S → List Listed → S → Type 0) (faults : S → ℕ) (s : S) (stands : Volume → Type 0) (before : ℕ → Bool) (tells : Type 0) (g : Geometry) (bs : List Branch)
    → took s [] s → Grew took faults s s stands before tells before (all_lines g bs) (all_lines g bs) 0
grew_none took faults s stands before tells g bs none = record {
  done = [];
  count = refl;
  taken = none;
  stays = refl;
  remains = remains_same (after [] (all_lines g bs)) (after_none g bs) (remains_all stands before tells (all_lines g bs));
}

-- the same entries are left
pub grew_same : {S : Type 0} {took : S → List Listed → S → Type 0} {faults : S → ℕ} {old new : S} {stands : Volume → Type 0} {tells : Type 0} {before now : ℕ → Bool} {whole : Reading (Result (List Listed) PathRefusal)} {n : ℕ}
    (g : Geometry) (bs cs : List Branch) → bs ≡ cs → Grew took faults old new stands before tells now whole (all_lines g bs) n → Grew took faults old new stands before tells now whole (all_lines g cs) n
grew_same {took = took} {faults = faults} {old = old} {new = new} {stands = stands} {tells = tells} {before = before} {now = now} {whole = whole} {n = n} g bs cs is so_far =
    subst (λ (xs : List Branch). Grew took faults old new stands before tells now whole (all_lines g xs) n) is so_far

-- an entry was opened
pub opens_next : {S : Type 0} {took : S → List Listed → S → Type 0} {faults : S → ℕ} {old new : S} {stands still : Volume → Type 0} {tells told : Type 0} {before now later : ℕ → Bool} {whole : Reading (Result (List Listed) PathRefusal)} {n : ℕ}
    (g : Geometry) (b : Branch) (bs found : List Branch) (inode : Inode) (so_far : Grew took faults old new stands before tells now whole (all_lines g (b ∷ bs)) n)
    → Grows now later → ((v : Volume) → stands v → still v) → (told → tells) → ReadsAs still now told later (opened g b) (Some (Ok (inode, found)))
    → Remains stands before told later whole (after (so_far.done ++ (line_of b inode ∷ [])) (all_lines g (found ++ bs)))
opens_next g b bs found inode so_far grows keeps tell one =
    remains_on (after_line g so_far.done b bs) (inode, found) grows keeps tell
    (remains_same (and_then (opened g b) (after_line g so_far.done b bs)) (next_line g so_far.done b bs) so_far.remains) one

pub grew_line : {S : Type 0} {took : S → List Listed → S → Type 0} {faults : S → ℕ} {old new next : S} {stands still : Volume → Type 0} {tells told : Type 0} {before now later : ℕ → Bool} {whole : Reading (Result (List Listed) PathRefusal)} {n : ℕ}
    (g : Geometry) (b : Branch) (bs found : List Branch) (inode : Inode)
    → ((s t u : S) (x y : List Listed) → took s x t → took t y u → took s (x ++ y) u)
    → Grew took faults old new stands before tells now whole (all_lines g (b ∷ bs)) n
    → Grows now later → ((v : Volume) → stands v → still v) → (told → tells) → ReadsAs still now told later (opened g b) (Some (Ok (inode, found)))
    → took new (line_of b inode ∷ []) next → faults next ≡ faults new
    → Grew took faults old next stands before told later whole (all_lines g (found ++ bs)) (n + 1)
grew_line {old = old} {new = new} {next = next} g b bs found inode both so_far grows keeps tell one took same = record {
  done = so_far.done ++ (line_of b inode ∷ []);
  count = length-append so_far.done (line_of b inode ∷ []) ∙ ap (λ (k : ℕ). k + 1) so_far.count;
  taken = both old new next so_far.done (line_of b inode ∷ []) so_far.taken took;
  stays = same ∙ so_far.stays;
  remains = opens_next g b bs found inode so_far grows keeps tell one;
}

-- ---- fronts of the lines

begins_at : (x : Result (List Listed) PathRefusal) (done lines : List Listed) (v : Volume) → Ok lines ≡ (on_ok x (λ last. known (Ok (done ++ last))) v).value → lines ≡ done ++ drop (length done) lines
begins_at (Ok last) done lines v is = after_front done lines last (let same : Ok lines ≡ Ok (done ++ last) = is in let equal : lines ≡ done ++ last = cc in equal)
begins_at (Err refusal) done lines v is = let no : Ok lines ≡ Err refusal = is in cc

begins_by : (rest : Reading (Result (List Listed) PathRefusal)) (done lines : List Listed) (v : Volume) → Ok lines ≡ (after done rest v).value → lines ≡ done ++ drop (length done) lines
unfolding and_then bind
begins_by rest done lines v is = begins_at ((rest v).value) done lines v is

pub front_begins : {stands : Volume → Type 0} {tells : Type 0} {before now : ℕ → Bool} {whole : Reading (Result (List Listed) PathRefusal)} (rest : Reading (Result (List Listed) PathRefusal)) (done : List Listed)
    → Remains stands before tells now whole (after done rest) → Begins stands tells whole done
front_begins rest done so_far = λ is v holds lines e. begins_by rest done lines v (e ∙ so_far.answers.go is v holds)

-- nothing is left
pub all_grown : {S : Type 0} {took : S → List Listed → S → Type 0} {faults : S → ℕ} {old new : S} {stands : Volume → Type 0} {tells : Type 0} {before now : ℕ → Bool} {whole : Reading (Result (List Listed) PathRefusal)} {n : ℕ}
    (g : Geometry) (so_far : Grew took faults old new stands before tells now whole (all_lines g []) n) → ReadsAs stands before tells now whole (Some (Ok so_far.done))
all_grown g so_far = ends (Ok so_far.done) (remains_same (known (Ok so_far.done)) (after_all g so_far.done) so_far.remains).reads

-- an entry isn't opened
pub entry_unread : {S : Type 0} {took : S → List Listed → S → Type 0} {faults : S → ℕ} {old new : S} {stands still : Volume → Type 0} {tells told : Type 0} {before now later : ℕ → Bool} {whole : Reading (Result (List Listed) PathRefusal)} {n : ℕ}
    (g : Geometry) (b : Branch) (bs : List Branch) (fault : LookFault) (so_far : Grew took faults old new stands before tells now whole (all_lines g (b ∷ bs)) n)
    → Grows now later → ((v : Volume) → stands v → still v) → (told → tells) → ReadsAs still now told later (opened g b) (option_map Err (refusal_of fault))
    → ReadsAs stands before told later whole (option_map Err (refusal_of fault))
entry_unread g b bs fault so_far grows keeps tell one =
    ends_refused refusal_of (after_line g so_far.done b bs) fault grows keeps tell
    (remains_same (and_then (opened g b) (after_line g so_far.done b bs)) (next_line g so_far.done b bs) so_far.remains).reads one

-- its blocks are needed
pub entry_needed : {S : Type 0} {took : S → List Listed → S → Type 0} {faults : S → ℕ} {old new : S} {stands : Volume → Type 0} {tells : Type 0} {before now : ℕ → Bool} {whole : Reading (Result (List Listed) PathRefusal)} {n : ℕ}
    (g : Geometry) (b : Branch) (bs : List Branch) → Grew took faults old new stands before tells now whole (all_lines g (b ∷ bs)) n
    → tells → (v : Volume) → stands v → (block : ℕ) → IsNeeded (opened g b) v block → IsNeeded whole v block
entry_needed g b bs so_far is v holds block h =
    (remains_same (and_then (opened g b) (after_line g so_far.done b bs)) (next_line g so_far.done b bs) so_far.remains).leads.go is v holds block
    (needs_first (opened g b) (after_line g so_far.done b bs) v block h)

-- ---- both passes

pub grown_given : {S : Type 0} (took took_part : S → List Listed → S → Type 0) (faults : S → ℕ) {stands still : Volume → Type 0} {told : Type 0} {before now later : ℕ → Bool} (whole : Reading (Result (List Listed) PathRefusal)) (walked : Walked) (n : ℕ) (old new : S)
    → walked ≡ All n → Grows before now → ((v : Volume) → stands v → still v)
    → IsGrown took took_part faults old new (ReadsAs still now told later whole) (Begins still told whole) walked
    → IsAnswer took took_part faults old new (ReadsAs stands before told later whole) (Given n)
grown_given took took_part faults {still = still} {told = told} {now = now} {later = later} whole walked n old new e grows keeps h =
    let is : IsGrown took took_part faults old new (ReadsAs still now told later whole) (Begins still told whole) (All n) =
    subst (λ (w : Walked). IsGrown took took_part faults old new (ReadsAs still now told later whole) (Begins still told whole) w) e h in
    (is.0, is.1, is.2, wider _ grows (λ b h. h) keeps (λ h. h) (is.3))

-- the lines of the first pass are those that were handed on, and others
whole_lines : {stands still : Volume → Type 0} {tells told : Type 0} {before now later : ℕ → Bool} (whole : Reading (Result (List Listed) PathRefusal)) (lines front : List Listed)
    → Grows now later → ((v : Volume) → stands v → still v) → (told → tells) → ReadsAs stands before tells now whole (Some (Ok lines)) → Begins still told whole front
    → ReadsAs stands before told later whole (Some (Ok (front ++ drop (length front) lines)))
whole_lines whole lines front further keeps tell first is =
    answer_where (Ok lines) (Ok (front ++ drop (length front) lines)) (λ are v holds. ap Ok (is are v (keeps v holds) lines ((first.rule (tell are) v holds).answer)))
    (wider _ (λ b h. h) further (λ v h. h) tell first)

pub grown_cut : {S : Type 0} (took took_part : S → List Listed → S → Type 0) (faults : S → ℕ) {stands still : Volume → Type 0} {tells told : Type 0} {before now later : ℕ → Bool} (whole : Reading (Result (List Listed) PathRefusal)) (lines : List Listed) (walked : Walked) (n : ℕ) (fault : LookFault) (old new : S)
    → walked ≡ Unread n fault → Grows before now → Grows now later → ((v : Volume) → stands v → still v) → (told → tells)
    → ReadsAs stands before tells now whole (Some (Ok lines))
    → IsGrown took took_part faults old new (ReadsAs still now told later whole) (Begins still told whole) walked
    → IsAnswer took took_part faults old new (ReadsAs stands before told later whole) (Cut n)
grown_cut took took_part faults {still = still} {told = told} {now = now} {later = later} whole lines walked n fault old new e grows further keeps tell first h =
    let is : IsGrown took took_part faults old new (ReadsAs still now told later whole) (Begins still told whole) (Unread n fault) =
    subst (λ (w : Walked). IsGrown took took_part faults old new (ReadsAs still now told later whole) (Begins still told whole) w) e h in (
      is.0,
      drop (length (is.0)) lines,
      is.1,
      is.2,
      whole_lines whole lines (is.0) further keeps tell first (is.3),
      none_now lines (refusal_of fault) (wider _ (λ b h. h) further (λ v h. h) tell first) (wider _ grows (λ b h. h) keeps (λ h. h) (is.4)),
    )

-- memory was wanting in the second pass
pub grown_wanting : {S : Type 0} (took : S → List Listed → S → Type 0) {stands still : Volume → Type 0} {tells told : Type 0} {before now later : ℕ → Bool} (whole : Reading (Result (List Listed) PathRefusal)) (lines : List Listed) (old new : S)
    → Grows now later → ((v : Volume) → stands v → still v) → (told → tells) → ReadsAs stands before tells now whole (Some (Ok lines))
    → HandsFront took old new (Begins still told whole) → HandsSome took old new (ReadsAs stands before told later whole)
grown_wanting took whole lines old new further keeps tell first h =
    inr (h.0, drop (length (h.0)) lines, h.1, whole_lines whole lines (h.0) further keeps tell first (h.2))

pub grown_failed : {S : Type 0} (took took_part : S → List Listed → S → Type 0) (faults : S → ℕ) {stands still : Volume → Type 0} {tells told : Type 0} {before now later : ℕ → Bool} (whole : Reading (Result (List Listed) PathRefusal)) (lines : List Listed) (walked : Walked) (old new : S)
    → walked ≡ Failed → ((a b : S) (x y : List Listed) → took_part a x b → took_part a (x ++ y) b) → Grows now later → ((v : Volume) → stands v → still v) → (told → tells)
    → ReadsAs stands before tells now whole (Some (Ok lines))
    → IsGrown took took_part faults old new (ReadsAs still now told later whole) (Begins still told whole) walked
    → IsAnswer took took_part faults old new (ReadsAs stands before told later whole) SinkFault
grown_failed took took_part faults {still = still} {told = told} {now = now} {later = later} whole lines walked old new e part further keeps tell first h =
    let is : IsGrown took took_part faults old new (ReadsAs still now told later whole) (Begins still told whole) Failed =
    subst (λ (w : Walked). IsGrown took took_part faults old new (ReadsAs still now told later whole) (Begins still told whole) w) e h in
    (is.0 ++ drop (length (is.0)) lines, part old new (is.0) (drop (length (is.0)) lines) (is.1), whole_lines whole lines (is.0) further keeps tell first (is.2), is.3)
