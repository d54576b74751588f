-- What is read of a file begins with what is read of its path, and a file whose bytes can be read has the inode that its path leads to.
use Rattle.std.proofs.Common.{◌≡◌, ◌∙◌, ℕ, Bool, true, false, List, [], ◌∷◌, ◌++◌, inl, inr, refl, sym, ap, subst}
use Rattle.std.specs.Prelude.{Some, None, Option, Result, Ok, Err, if◌then◌else◌}
use Rattle.std.specs.List.{list_any}
use Rattle.std.specs.Option.{option_map}
use Rattle.std.proofs.lemmas.Bool.{false≢true, or_cases, or_left, or_right}
use Rattle.std.proofs.lemmas.List.{append_assoc, append-nil}
use Rattle.std.proofs.lemmas.List.Folds.{list_any-append}
use Rattle.ufs_model.specs.Blocks.{Consulted, Reading, Volume, bind, known}
use Rattle.ufs_model.specs.Inodes.{block_count, kind_of}
use Rattle.ufs_model.specs.Paths.{cat_of, contents_of, file_refusal, front_of, is_regular, look_from, look_of, names_of, size_refusal, unless_refused, volume_geometry}
use Rattle.ufs_model.specs.Readings.{Grows, MeetsRule, ReadsAs, and_then, on_ok}
use Rattle.ufs_model.specs.Trees.{file_of}
use Rattle.ufs_model.specs.declared.geometries.Geometry.{Geometry}
use Rattle.ufs_model.specs.declared.inodes.Inode.{Inode}
use Rattle.ufs_model.specs.declared.reads.PathRefusal.{PathRefusal}
use Rattle.ufs_model.specs.declared.reads.PathRefusal.TheVariants.{NotRegular}

is_ok : {A E : Type 0} → Result A E → Bool
is_ok (Ok a) = true
is_ok (Err e) = false

err_not_ok : {A E : Type 0} (e : E) (a : A) → ◌≡◌ {A = Result A E} (Err e) (Ok a) → ⊥
unfolding is_ok
err_not_ok e a same = false≢true (ap is_ok same)

-- ---- a reading over a longer row of calls

any_grows : (before after : ℕ → Bool) (needs : List ℕ) → Grows before after → list_any before needs ≡ true → list_any after needs ≡ true
any_grows before after [] grows h = h
any_grows before after (b ∷ needs) grows h = elim (or_cases (before b) (list_any before needs) h) [
  | inl here ↦ or_left (after b) (list_any after needs) (grows b here)
  | inr rest ↦ or_right (after b) (list_any after needs) (any_grows before after needs grows rest)
]

-- what the last calls read was read by all calls
pub reads_last : {A : Type 0} {stands still : Volume → Type 0} {tells : Type 0} {before now after : ℕ → Bool} {d : Reading A} (answer : Option A)
    → Grows before now → ((v : Volume) → stands v → still v) → ReadsAs still now tells after d answer → ReadsAs stands before tells after d answer
reads_last {before = before} {now = now} {d = d} answer grows keeps reads = record {
  rule = λ told v holds.
      let last = reads.rule told v (keeps v holds) in record {
        unavailable = λ h. last.unavailable (any_grows before now ((d v).needs) grows h);
        answer = last.answer;
        only = last.only;
      };
}

-- so were the bytes of a file
pub cat_last : {stands still : Volume → Type 0} {tells : Type 0} {before now after : ℕ → Bool} (l n bytes blocks : ℕ) (path : List ℕ) (answer : Option (Result (List ℕ) PathRefusal)) → bytes ≡ l → blocks ≡ n
    → Grows before now → ((v : Volume) → stands v → still v) → ReadsAs still now tells after (cat_of bytes blocks path) answer → ReadsAs stands before tells after (cat_of l n path) answer
cat_last {stands = stands} {tells = tells} {before = before} {after = after} l n bytes blocks path answer size count grows keeps reads =
    let wide : ReadsAs stands before tells after (cat_of bytes blocks path) answer = reads_last answer grows keeps reads in
    subst (λ (x : ℕ). ReadsAs stands before tells after (cat_of l x path) answer) count (subst (λ (x : ℕ). ReadsAs stands before tells after (cat_of x blocks path) answer) size wide)

-- ---- a reading that begins with another

refusal_in : {A R : Type 0} → Result A R → R → R
refusal_in (Err r) other = r
refusal_in (Ok a) other = other

err_on : {A B R : Type 0} {r refusal : R} → ◌≡◌ {A = Result A R} (Err r) (Err refusal) → ◌≡◌ {A = Result B R} (Err r) (Err refusal)
unfolding refusal_in
err_on {r = r} same = ap Err (ap (λ x. refusal_in x r) same)

-- What the one needs, the whole needs first; and what it refuses, the whole refuses, and needs nothing more.
pub record Follows {A B R : Type 0} (one : Consulted (Result A R)) (whole : Consulted (Result B R)) : Type 0 where
  pub more : List ℕ
  pub needs : whole.needs ≡ one.needs ++ more
  pub refused : (refusal : R) → one.value ≡ Err refusal → (whole.value ≡ Err refusal) × (more ≡ [])

any_more : (test : ℕ → Bool) (one more : List ℕ) → list_any test one ≡ true → list_any test (one ++ more) ≡ true
any_more test one more h = list_any-append test one more ∙ or_left (list_any test one) (list_any test more) h

any_first : (test : ℕ → Bool) (whole one more : List ℕ) → whole ≡ one ++ more → more ≡ [] → list_any test whole ≡ true → list_any test one ≡ true
any_first test whole one more is none h =
    let bare : whole ≡ one = is ∙ ap (λ (x : List ℕ). one ++ x) none ∙ append-nil one in
    ap (list_any test) (sym bare) ∙ h

rule_refused : {A B R : Type 0} (before after : ℕ → Bool) (one : Consulted (Result A R)) (whole : Consulted (Result B R)) → Follows one whole → (refusal : R)
    → MeetsRule before after one (Some (Err refusal)) → MeetsRule before after whole (Some (Err refusal))
rule_refused before after one whole follows refusal rule =
    let both = follows.refused refusal (sym rule.answer) in record {
      unavailable = λ h. rule.unavailable (any_first before whole.needs one.needs follows.more follows.needs both.1 h);
      answer = sym both.0;
      only = tt;
    }

rule_lost : {A B R : Type 0} (before after : ℕ → Bool) (one : Consulted (Result A R)) (whole : Consulted (Result B R)) → Follows one whole
    → MeetsRule before after one None → MeetsRule before after whole None
rule_lost before after one whole follows rule = record {
  unavailable = λ h. refl;
  answer = tt;
  only = ap (list_any after) follows.needs ∙ any_more after one.needs follows.more rule.only;
}

-- so is the answer of a fault
pub reads_first : {A B R : Type 0} (stands : Volume → Type 0) (before : ℕ → Bool) (tells : Type 0) (after : ℕ → Bool) (d : Reading (Result A R)) (e : Reading (Result B R)) → ((v : Volume) → Follows (d v) (e v))
    → (refusal : Option R) → ReadsAs stands before tells after d (option_map Err refusal) → ReadsAs stands before tells after e (option_map Err refusal)
reads_first stands before tells after d e follows None reads = record { rule = λ told v holds. rule_lost before after (d v) (e v) (follows v) (reads.rule told v holds) }
reads_first stands before tells after d e follows (Some refusal) reads =
    record { rule = λ told v holds. rule_refused before after (d v) (e v) (follows v) refusal (reads.rule told v holds) }

at_found : {A B R : Type 0} (front needs : List ℕ) (found : Result A R) (f : A → Reading (Result B R)) (v : Volume)
    → Follows (record { value = found; needs = front ++ needs }) (record { value = (on_ok found f v).value; needs = front ++ (needs ++ (on_ok found f v).needs) })
at_found front needs (Err r) f v = record { more = []; needs = sym (append_assoc front needs []); refused = λ refusal e. (err_on e, refl) }
at_found front needs (Ok a) f v = record {
  more = (f a v).needs;
  needs = sym (append_assoc front needs ((f a v).needs));
  refused = λ refusal e. absurd (err_not_ok refusal a (sym e));
}

at_read : (l n : ℕ) (path : List ℕ) (v : Volume) (needs : List ℕ) (geometry : Result Geometry PathRefusal)
    → Follows
    (record { value = (on_ok geometry (λ g. look_from g (names_of path) 2) v).value; needs = needs ++ (on_ok geometry (λ g. look_from g (names_of path) 2) v).needs })
    (record {
      value = (on_ok geometry (λ g. and_then (look_from g (names_of path) 2) (λ found. contents_of g found.1)) v).value;
      needs = needs ++ (on_ok geometry (λ g. and_then (look_from g (names_of path) 2) (λ found. contents_of g found.1)) v).needs;
    })
unfolding and_then bind
at_read l n path v needs (Err r) = record { more = []; needs = sym (append-nil (needs ++ [])); refused = λ refusal e. (err_on e, refl) }
at_read l n path v needs (Ok g) = at_found needs ((look_from g (names_of path) 2 v).needs) ((look_from g (names_of path) 2 v).value) (λ found. contents_of g found.1) v

-- the contents of a file begin with its path
pub cat_follows : (l n : ℕ) (path : List ℕ) (v : Volume) → Follows (look_of l n path v) (cat_of l n path v)
unfolding look_of cat_of and_then bind
cat_follows l n path v = at_read l n path v ((volume_geometry l n v).needs) ((volume_geometry l n v).value)

-- ---- the inode of a file

-- what is answered of what stands at a path
abbrev pub as_file : (ℕ × Inode) → Reading (Result ℕ PathRefusal)
as_file found = known (if is_regular (kind_of found.1.mode) then Ok found.0 else Err NotRegular)

not_regular : (g : Geometry) (inode : Inode) (v : Volume) → is_regular (kind_of inode.mode) ≡ false → (contents_of g inode v).value ≡ Err NotRegular
unfolding contents_of file_refusal
not_regular g inode v is =
    ap (λ (b : Bool). (unless_refused (if b then size_refusal inode else Some NotRegular) (front_of g inode (block_count g inode)) v).value) is

regular_by : (g : Geometry) (inode : Inode) (v : Volume) (bytes : List ℕ) (regular : Bool) → is_regular (kind_of inode.mode) ≡ regular
    → (contents_of g inode v).value ≡ Ok bytes → regular ≡ true
regular_by g inode v bytes true is e = refl
regular_by g inode v bytes false is e = absurd (err_not_ok NotRegular bytes (sym (not_regular g inode v is) ∙ e))

found_file : (i : ℕ) (regular : Bool) → regular ≡ true → (if regular then Ok i else Err NotRegular) ≡ Ok i
found_file i true is = refl
found_file i false is = absurd (false≢true is)

-- what leads to an inode of which there are bytes, leads to a file
at_inode : (g : Geometry) (v : Volume) (bytes : List ℕ) (at : ℕ × Inode) (look : Result (ℕ × Inode) PathRefusal) → look ≡ Ok at
    → (on_ok look (λ found. contents_of g found.1) v).value ≡ Ok bytes → (on_ok look as_file v).value ≡ Ok at.0
at_inode g v bytes at (Err refusal) is e = absurd (err_not_ok refusal at is)
at_inode g v bytes at (Ok found) is e =
    let same : found ≡ at = cc in
    found_file found.0 (is_regular (kind_of found.1.mode)) (regular_by g found.1 v bytes (is_regular (kind_of found.1.mode)) refl e)
    ∙ ap (λ (x : ℕ × Inode). Ok x.0) same

at_geometry : (path : List ℕ) (v : Volume) (bytes : List ℕ) (at : ℕ × Inode) (geometry : Result Geometry PathRefusal)
    → (on_ok geometry (λ g. look_from g (names_of path) 2) v).value ≡ Ok at
    → (on_ok geometry (λ g. and_then (look_from g (names_of path) 2) (λ found. contents_of g found.1)) v).value ≡ Ok bytes
    → (on_ok ((on_ok geometry (λ g. look_from g (names_of path) 2) v).value) as_file v).value ≡ Ok at.0
unfolding and_then bind
at_geometry path v bytes at (Err refusal) is e = absurd (err_not_ok refusal bytes e)
at_geometry path v bytes at (Ok g) is e = at_inode g v bytes at ((look_from g (names_of path) 2 v).value) is e

-- the file at a path, where the path leads to an inode and there are bytes
pub file_at : (l n : ℕ) (path : List ℕ) (v : Volume) (bytes : List ℕ) (at : ℕ × Inode) → (look_of l n path v).value ≡ Ok at → (cat_of l n path v).value ≡ Ok bytes
    → (file_of l n path v).value ≡ Ok at.0
unfolding cat_of file_of look_of and_then bind
file_at l n path v bytes at is e = at_geometry path v bytes at ((volume_geometry l n v).value) is e
