-- A sink in memory that is handed bytes piece by piece.
use Rattle.std.proofs.Common.{◌≡◌, ◌∙◌, ℕ, List, [], ◌++◌, ap, sym, append_assoc}
use Rattle.std.proofs.lemmas.List.{append-nil}
use Rattle.dg_io.specs.Sinks.{taken_in}
use Rattle.dg_io.specs.Told.{Took}
use Rattle.dg_io.specs.declared.sinks.MemSink.{MemSink}

-- it took these bytes
abbrev pub Taken : MemSink → List ℕ → MemSink → Type 0
Taken old bytes new = Took bytes (taken_in old) (taken_in new)

-- it took a part of them, from their front
pub record TakenPart (old : MemSink) (bytes : List ℕ) (new : MemSink) : Type 0 where
  pub front : List ℕ
  pub rest : List ℕ
  pub whole : bytes ≡ front ++ rest
  pub took : Took front (taken_in old) (taken_in new)

pub taken_none : (s : MemSink) → Taken s [] s
taken_none s = sym (append-nil (taken_in s))

pub taken_both : (a b c : MemSink) (x y : List ℕ) → Taken a x b → Taken b y c → Taken a (x ++ y) c
taken_both a b c x y first second = second ∙ ap (λ (l : List ℕ). l ++ y) first ∙ append_assoc (taken_in a) x y

pub taken_part_after : (a b c : MemSink) (x y : List ℕ) → Taken a x b → TakenPart b y c → TakenPart a (x ++ y) c
taken_part_after a b c x y first second = record {
  front = x ++ second.front;
  rest = second.rest;
  whole = ap (λ (l : List ℕ). x ++ l) second.whole ∙ sym (append_assoc x second.front second.rest);
  took = second.took ∙ ap (λ (l : List ℕ). l ++ second.front) first ∙ append_assoc (taken_in a) x second.front;
}

pub taken_part_of_more : (a b : MemSink) (x y : List ℕ) → TakenPart a x b → TakenPart a (x ++ y) b
taken_part_of_more a b x y first = record {
  front = first.front;
  rest = first.rest ++ y;
  whole = ap (λ (l : List ℕ). l ++ y) first.whole ∙ append_assoc first.front first.rest y;
  took = first.took;
}
