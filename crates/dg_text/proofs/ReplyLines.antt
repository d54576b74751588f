-- The lines of replies, as they are put together.
use Rattle.std.proofs.Common.{◌≡◌, ℕ, List, ◌++◌, length, refl, sym, ◌∙◌, ap, subst, append_assoc}
use Rattle.std.specs.Prelude.{codes, Option, Some, None, Result, OnOk, OnErr}
use Rattle.std.specs.Fmt.{decimal}
use Rattle.std.specs.List.{concat}
use Rattle.std.proofs.lemmas.List.{append-nil}
use Rattle.dg_io.specs.Told.{Told, Took, TookPart}
use Rattle.dg_model.specs.declared.replies.Reply.TheVariants.{HomeAt}
use Rattle.dg_text.specs.Replies.{file_text, reply_line}
use Rattle.dg_text.specs.Listings.{front_in, line_in, listing_text}
use Rattle.dg_text.specs.declared.listings.Form.{Form}
use Rattle.dg_text.specs.declared.listings.Form.TheVariants.{Directory, Volume}
use Rattle.dg_text.specs.Lines.{path_word}
use Rattle.dg_text.specs.Replies.{entry_words, kind_letter}
use Rattle.ufs_model.specs.Listings.{Listed}

-- what was written is the text that was meant
pub took_as : {T E : Type 0} (result : Result T E) (line text : List ℕ) (a b : Option (List ℕ)) → line ≡ text
    → OnOk result (Told (Took line) a b) → OnOk result (Told (Took text) a b)
took_as result line text a b is h = subst (λ (l : List ℕ). OnOk result (Told (Took l) a b)) is h

pub took_part_as : {T E : Type 0} (result : Result T E) (line text : List ℕ) (a b : Option (List ℕ)) → line ≡ text
    → OnErr result (Told (TookPart line) a b) → OnErr result (Told (TookPart text) a b)
took_part_as result line text a b is h = subst (λ (l : List ℕ). OnErr result (Told (TookPart l) a b)) is h

-- two numbers between words, and the end of the line
pub two_numbers : (n m : ℕ) (between : List ℕ) → decimal n ++ (between ++ (decimal m ++ codes "\n")) ≡ (decimal n ++ (between ++ decimal m)) ++ codes "\n"
two_numbers n m between =
    ap (λ (l : List ℕ). decimal n ++ l) (sym (append_assoc between (decimal m) (codes "\n"))) ∙ sym (append_assoc (decimal n) (between ++ decimal m) (codes "\n"))

pub home_line : (s : ℕ) (copy : Option ℕ) → copy ≡ None → codes "home " ++ (decimal s ++ codes "\n") ≡ reply_line (HomeAt s copy)
home_line s copy is =
    ap (λ (l : List ℕ). codes "home " ++ (l ++ codes "\n")) (sym (append-nil (decimal s))) ∙ ap (λ (c : Option ℕ). reply_line (HomeAt s c)) (sym is)

pub copy_line : (s t : ℕ) (copy : Option ℕ) → copy ≡ Some t
    → codes "home " ++ (decimal s ++ (codes " copy " ++ (decimal t ++ codes "\n"))) ≡ reply_line (HomeAt s copy)
copy_line s t copy is =
    ap (λ (l : List ℕ). codes "home " ++ l) (two_numbers s t (codes " copy ")) ∙ ap (λ (c : Option ℕ). reply_line (HomeAt s c)) (sym is)

-- the end of a file, or of a listing
pub file_end : List ℕ → List (List ℕ) → List ℕ
file_end word lines = (file_text lines ++ (word ++ decimal (length (concat lines)))) ++ codes "\n"

pub listing_end : Form → List ℕ → List Listed → List ℕ
listing_end form word entries = (listing_text form entries ++ (word ++ decimal (length entries))) ++ codes "\n"

-- ---- an entry

front_line : (form : Form) (entry : Listed) → front_in form entry.depth ++ (entry_words entry ++ codes "\n") ≡ line_in form entry
front_line Directory entry = refl
front_line Volume entry = ap (λ (l : List ℕ). codes "node " ++ l) (append_assoc (decimal entry.depth) (codes " ") (entry_words entry ++ codes "\n"))

words_end : (inode kind size name : List ℕ)
    → (inode ++ (codes " " ++ (kind ++ (codes " " ++ (size ++ codes " "))))) ++ (name ++ codes "\n")
    ≡ (inode ++ (codes " " ++ (kind ++ (codes " " ++ (size ++ (codes " " ++ name)))))) ++ codes "\n"
words_end inode kind size name = simp append_assoc refl

-- what stands before the name, the name, and the end of the line
pub entry_whole : (form : Form) (entry : Listed) (head : List ℕ)
    → head ≡ front_in form entry.depth ++ (decimal entry.inode ++ (codes " " ++ (kind_letter entry.kind ++ (codes " " ++ (decimal entry.size ++ codes " ")))))
    → head ++ (path_word entry.name ++ codes "\n") ≡ line_in form entry
entry_whole form entry head is =
    ap (λ (l : List ℕ). l ++ (path_word entry.name ++ codes "\n")) is
    ∙ append_assoc (front_in form entry.depth) _ _
    ∙ ap (λ (l : List ℕ). front_in form entry.depth ++ l) (words_end (decimal entry.inode) (kind_letter entry.kind) (decimal entry.size) (path_word entry.name))
    ∙ front_line form entry
