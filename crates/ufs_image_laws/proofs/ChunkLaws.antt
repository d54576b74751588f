-- Entries that were put one behind the other are read, chunk by chunk.
use Rattle.std.proofs.Common.{◌≡◌, ◌≢◌, ◌∙◌, ℕ, ◌+◌, ◌-◌, ◌*◌, ◌%◌, ◌^◌, ◌<◌, ◌≤◌, ◌&&◌, ◌==◌, not, Bool, true, false, List, [], ◌∷◌, ◌++◌, length, take, drop, get_or, refl, sym, ap, subst, arith, Some, None, append_assoc, length-append}
use Rattle.std.specs.Prelude.{if◌then◌else◌, nat_le, nat_lt, replicate}
use Rattle.std.specs.Int.{div_ceil}
use Rattle.std.proofs.lemmas.Bool.{and_from, eq-eqb, false≢true, le-leb, le-ltb, leb-true, ne_eqb, or_right}
use Rattle.std.proofs.lemmas.Grind.{div_ceil_times}
use Rattle.std.proofs.lemmas.List.{append-nil, drop-drop, drop_at, get_or-append_right, length-replicate, take_at}
use Rattle.ufs_model.specs.Chunks.{DirEntry, entries_in, entry_before, entry_in, fault_at, fault_in, fault_or, has_inode, inode_field, is_name, name_field, namlen_field, reclen_field, reclen_holds, type_field}
use Rattle.ufs_model.specs.declared.chunks.BadEntry.TheVariants.{Cut, Reclen, Name}
use Rattle.ufs_model.specs.declared.numbers.Endian.{Endian}
use Rattle.ufs_build.specs.Directories.{entry_bytes, entry_length, packed, room_after}
use Rattle.ufs_build.specs.Parts.{number_bytes}
use Rattle.ufs_image_laws.specs.Reads.{Stands}
use Rattle.ufs_image_laws.proofs.ListLaws.{Each}
use Rattle.ufs_image_laws.proofs.NumberLaws.{number_back, number_length}

-- ---- what stands in bytes end to end

stands_front : (xs ys : List ℕ) → Stands (xs ++ ys) 0 xs
stands_front xs ys = record { inside = let e = length-append xs ys in omega (arith, e); are = take_at xs ys (length xs) refl }

stands_behind : (xs ys zs : List ℕ) (at : ℕ) → length xs ≡ at → Stands (xs ++ (ys ++ zs)) at ys
stands_behind xs ys zs at size = record {
  inside = let e = length-append xs (ys ++ zs) in let f = length-append ys zs in omega (arith, e, f, size);
  are = ap (take (length ys)) (drop_at xs (ys ++ zs) at size) ∙ take_at ys zs (length ys) refl;
}

-- ---- an entry

pub record IsGoodEntry (entry : DirEntry) : Type 0 where
  pub some : entry.inode ≢ 0
  pub small : entry.inode < 2 ^ 32
  pub name : is_name entry.name ≡ true
  pub short : length entry.name ≤ 255

pub entry_room : (name : List ℕ) → length name ≤ 255 → (8 + length name + 1 ≤ entry_length name) × (entry_length name ≤ 264)
entry_room name short =
    let round = div_ceil_times (8 + length name + 1) 4 (omega arith) in
    let low = round.0 in
    let high = round.1 in
    (omega arith, omega arith)

-- the bytes of an entry, before others
abbrev pub laid_out : Endian → DirEntry → ℕ → List ℕ → List ℕ
laid_out endian entry reclen rest =
    number_bytes endian 4 entry.inode ++ (number_bytes endian 2 reclen ++ (entry.kind ∷ length entry.name ∷ (entry.name ++ (replicate (reclen - (8 + length entry.name)) 0 ++ rest))))

laid : (endian : Endian) (entry : DirEntry) (reclen : ℕ) (rest : List ℕ) → entry_bytes endian entry reclen ++ rest ≡ laid_out endian entry reclen rest
unfolding entry_bytes
laid endian entry reclen rest =
    let zeros : List ℕ = replicate (reclen - (8 + length entry.name)) 0 in
    let own = (entry.kind ∷ length entry.name ∷ []) ++ (entry.name ++ zeros) in
    append_assoc (number_bytes endian 4 entry.inode) (number_bytes endian 2 reclen ++ own) rest
    ∙ ap (λ (xs : List ℕ). number_bytes endian 4 entry.inode ++ xs) (append_assoc (number_bytes endian 2 reclen) own rest
    ∙ ap (λ (xs : List ℕ). number_bytes endian 2 reclen ++ xs) (ap (λ (xs : List ℕ). entry.kind ∷ length entry.name ∷ xs) (append_assoc entry.name zeros rest)))

pub entry_long : (endian : Endian) (entry : DirEntry) (reclen : ℕ) → 8 + length entry.name ≤ reclen → length (entry_bytes endian entry reclen) ≡ reclen
unfolding entry_bytes
entry_long endian entry reclen room =
    let zeros : List ℕ = replicate (reclen - (8 + length entry.name)) 0 in
    let inode = number_length endian 4 entry.inode in
    let size = number_length endian 2 reclen in
    let count = length-replicate {A = ℕ} (reclen - (8 + length entry.name)) 0 in
    let a = length-append entry.name zeros in
    let b = length-append (entry.kind ∷ length entry.name ∷ []) (entry.name ++ zeros) in
    let c = length-append (number_bytes endian 2 reclen) ((entry.kind ∷ length entry.name ∷ []) ++ (entry.name ++ zeros)) in
    let d = length-append (number_bytes endian 4 entry.inode) (number_bytes endian 2 reclen ++ ((entry.kind ∷ length entry.name ∷ []) ++ (entry.name ++ zeros))) in
    omega (arith, inode, size, count, a, b, c, d, room)

-- what is read of an entry before others
record IsLaid (endian : Endian) (entry : DirEntry) (reclen : ℕ) (bytes : List ℕ) : Type 0 where
  inode : inode_field endian bytes ≡ entry.inode
  taken : reclen_field endian bytes ≡ reclen
  kind : type_field bytes ≡ entry.kind
  namlen : namlen_field bytes ≡ length entry.name
  name : name_field bytes ≡ entry.name
  long : reclen ≤ length bytes

get_behind : (xs ys : List ℕ) (at n : ℕ) → length xs ≡ n → n ≤ at → get_or (xs ++ ys) at 0 ≡ get_or ys (at - n) 0
get_behind xs ys at n size low = get_or-append_right xs ys n at 0 size low

is_laid : (endian : Endian) (entry : DirEntry) (reclen : ℕ) (rest : List ℕ) → IsGoodEntry entry → reclen ≤ 512 → 8 + length entry.name ≤ reclen
    → IsLaid endian entry reclen (laid_out endian entry reclen rest)
is_laid endian entry reclen rest good small room =
    let one = number_bytes endian 4 entry.inode in
    let two = number_bytes endian 2 reclen in
    let zeros : List ℕ = replicate (reclen - (8 + length entry.name)) 0 in
    let named : List ℕ = entry.name ++ (zeros ++ rest) in
    let tail : List ℕ = entry.kind ∷ length entry.name ∷ named in
    let inode = number_length endian 4 entry.inode in
    let size = number_length endian 2 reclen in
    let count = length-replicate {A = ℕ} (reclen - (8 + length entry.name)) 0 in
    let a = length-append entry.name (zeros ++ rest) in
    let b = length-append zeros rest in
    let c = length-append two tail in
    let d = length-append one (two ++ tail) in
    let kind : get_or (one ++ (two ++ tail)) 6 0 ≡ entry.kind = get_behind one (two ++ tail) 6 4 inode (omega arith) ∙ get_behind two tail 2 2 size (omega arith) in
    let namlen : get_or (one ++ (two ++ tail)) 7 0 ≡ length entry.name = get_behind one (two ++ tail) 7 4 inode (omega arith) ∙ get_behind two tail 3 2 size (omega arith) in
    let behind : drop 8 (one ++ (two ++ tail)) ≡ named =
    sym (drop-drop 4 4 (one ++ (two ++ tail))) ∙ ap (drop 4) (drop_at one (two ++ tail) 4 inode)
    ∙ sym (drop-drop 2 2 (two ++ tail)) ∙ ap (drop 2) (drop_at two tail 2 size) in
    record {
      inode = number_back endian 4 entry.inode (one ++ (two ++ tail)) 0 good.small (stands_front one (two ++ tail));
      taken = number_back endian 2 reclen (one ++ (two ++ tail)) 4 (omega arith) (stands_behind one two tail 4 inode);
      kind = kind;
      namlen = namlen;
      name = ap (λ (n : ℕ). take n (drop 8 (one ++ (two ++ tail)))) namlen ∙ ap (take (length entry.name)) behind ∙ take_at entry.name (zeros ++ rest) (length entry.name) refl;
      long = omega (arith, inode, size, count, a, b, c, d, room);
    }

-- such an entry isn't refused, and is read as it is
record IsRead (endian : Endian) (entry : DirEntry) (reclen : ℕ) (bytes : List ℕ) : Type 0 where
  taken : reclen_field endian bytes ≡ reclen
  fault : fault_at endian bytes ≡ None
  is : entry_in endian bytes ≡ entry

used_is : (endian : Endian) (bytes : List ℕ) (inode : ℕ) → inode_field endian bytes ≡ inode → inode ≢ 0 → has_inode endian bytes ≡ true
used_is endian bytes inode e some = ap (λ (i : ℕ). not (i == 0)) e ∙ ap not (ne_eqb inode 0 some)

holds_is : (endian : Endian) (entry : DirEntry) (reclen : ℕ) (bytes : List ℕ) → IsGoodEntry entry → IsLaid endian entry reclen bytes → reclen % 4 ≡ 0 → entry_length entry.name ≤ reclen
    → reclen_holds endian bytes ≡ true
unfolding reclen_holds
holds_is endian entry reclen bytes good is whole room =
    let size = entry_room entry.name good.short in
    let least = size.0 in
    let own = is.taken in
    let long = is.long in
    and_from (nat_le 8 (reclen_field endian bytes)) _ (le-leb 8 (reclen_field endian bytes) (omega arith))
    (and_from (reclen_field endian bytes % 4 == 0) _ (eq-eqb (reclen_field endian bytes % 4) 0 (ap (λ (n : ℕ). n % 4) own ∙ whole))
    (and_from (nat_le (reclen_field endian bytes) (length bytes)) _ (le-leb (reclen_field endian bytes) (length bytes) (omega arith))
    (or_right (not (has_inode endian bytes)) (nat_le (div_ceil (8 + namlen_field bytes + 1) 4 * 4) (reclen_field endian bytes))
    (le-leb (div_ceil (8 + namlen_field bytes + 1) 4 * 4) (reclen_field endian bytes) (rw (is.namlen, own) room)))))

no_fault : (endian : Endian) (bytes : List ℕ) → nat_lt (length bytes) 8 ≡ false → reclen_holds endian bytes ≡ true → is_name (name_field bytes) ≡ true → fault_at endian bytes ≡ None
unfolding fault_at
no_fault endian bytes long holds name = no_fault_by (nat_lt (length bytes) 8) (reclen_holds endian bytes) (has_inode endian bytes) (is_name (name_field bytes)) long holds name
  where
    no_fault_by : (cut holds used named : Bool) → cut ≡ false → holds ≡ true → named ≡ true
        → (if cut then Some Cut else if not holds then Some Reclen else if used && not named then Some Name else None) ≡ None
    no_fault_by true holds used named e f h = absurd (false≢true (sym e))
    no_fault_by false false used named e f h = absurd (false≢true f)
    no_fault_by false true true true e f h = refl
    no_fault_by false true true false e f h = absurd (false≢true h)
    no_fault_by false true false named e f h = refl

entry_is : (endian : Endian) (entry : DirEntry) (reclen : ℕ) (bytes : List ℕ) → IsGoodEntry entry → IsLaid endian entry reclen bytes → entry_in endian bytes ≡ entry
unfolding entry_in
entry_is endian entry reclen bytes good is =
    let used = used_is endian bytes entry.inode is.inode good.some in
    rw (used, is.inode, is.kind, is.name) refl

read_entry : (endian : Endian) (entry : DirEntry) (reclen : ℕ) (rest : List ℕ) → IsGoodEntry entry → reclen ≤ 512 → reclen % 4 ≡ 0 → entry_length entry.name ≤ reclen
    → IsRead endian entry reclen (entry_bytes endian entry reclen ++ rest)
read_entry endian entry reclen rest good small whole room =
    let size = entry_room entry.name good.short in
    let least = size.0 in
    let is = is_laid endian entry reclen rest good small (omega arith) in
    let long = is.long in
    let out : IsRead endian entry reclen (laid_out endian entry reclen rest) = record {
      taken = is.taken;
      fault = no_fault endian (laid_out endian entry reclen rest) (le-ltb (length (laid_out endian entry reclen rest)) 8 (omega arith))
          (holds_is endian entry reclen (laid_out endian entry reclen rest) good is whole room) (ap is_name is.name ∙ good.name);
      is = entry_is endian entry reclen (laid_out endian entry reclen rest) good is;
    } in
    subst (λ (bytes : List ℕ). IsRead endian entry reclen bytes) (sym (laid endian entry reclen rest)) out

-- ---- the entries of a chunk

skip_fault : (endian : Endian) (xs ys : List ℕ) → fault_in endian (length xs) (xs ++ ys) ≡ fault_in endian 0 ys
unfolding fault_in
skip_fault endian [] ys = refl
skip_fault endian (x ∷ xs) ys = skip_fault endian xs ys

skip_entries : (endian : Endian) (xs ys : List ℕ) → entries_in endian (length xs) (xs ++ ys) ≡ entries_in endian 0 ys
unfolding entries_in
skip_entries endian [] ys = refl
skip_entries endian (x ∷ xs) ys = skip_entries endian xs ys

first_fault : (endian : Endian) (own rest : List ℕ) (reclen : ℕ) → length own ≡ reclen → 0 < reclen → reclen_field endian (own ++ rest) ≡ reclen → fault_at endian (own ++ rest) ≡ None
    → fault_in endian 0 (own ++ rest) ≡ fault_in endian 0 rest
unfolding fault_in
first_fault endian [] rest reclen size some field none = absurd (omega (arith, size, some))
first_fault endian (b ∷ own) rest reclen size some field none =
    let skip : reclen_field endian (b ∷ (own ++ rest)) - 1 ≡ length own = omega (arith, size, field) in
    ap (λ fault. fault_or fault (fault_in endian (reclen_field endian (b ∷ (own ++ rest)) - 1) (own ++ rest))) none
    ∙ ap (λ (n : ℕ). fault_in endian n (own ++ rest)) skip ∙ skip_fault endian own rest

first_entry : (endian : Endian) (own rest : List ℕ) (reclen : ℕ) (entry : DirEntry) → length own ≡ reclen → 0 < reclen → reclen_field endian (own ++ rest) ≡ reclen
    → fault_at endian (own ++ rest) ≡ None → entry_in endian (own ++ rest) ≡ entry → entries_in endian 0 (own ++ rest) ≡ entry ∷ entries_in endian 0 rest
unfolding entries_in
first_entry endian [] rest reclen entry size some field none is = absurd (omega (arith, size, some))
first_entry endian (b ∷ own) rest reclen entry size some field none is =
    let skip : reclen_field endian (b ∷ (own ++ rest)) - 1 ≡ length own = omega (arith, size, field) in
    ap (λ fault. entry_before fault (entry_in endian (b ∷ (own ++ rest))) (entries_in endian (reclen_field endian (b ∷ (own ++ rest)) - 1) (own ++ rest))) none
    ∙ ap (λ (e : DirEntry). e ∷ entries_in endian (reclen_field endian (b ∷ (own ++ rest)) - 1) (own ++ rest)) is
    ∙ ap (λ (n : ℕ). entry ∷ entries_in endian n (own ++ rest)) skip ∙ ap (λ (es : List DirEntry). entry ∷ es) (skip_entries endian own rest)

-- What is left of a chunk, which has these entries, and further chunks with the others.
pub record IsRest (endian : Endian) (room : ℕ) (entries : List DirEntry) (bytes : List ℕ) : Type 0 where
  pub here : List DirEntry
  pub later : List DirEntry
  pub chunk : List ℕ
  pub all : entries ≡ here ++ later
  pub less : length later < length entries
  pub good : Each IsGoodEntry here × Each IsGoodEntry later
  pub size : length chunk ≡ room
  pub fault : fault_in endian 0 chunk ≡ None
  pub are : entries_in endian 0 chunk ≡ here
  pub laid_bytes : bytes ≡ chunk ++ packed endian 512 later

nothing_left : (endian : Endian) → fault_in endian 0 [] ≡ None
unfolding fault_in
nothing_left endian = refl

no_entries : (endian : Endian) → entries_in endian 0 [] ≡ []
unfolding entries_in
no_entries endian = refl

-- one entry takes all that is left
last_rest : (endian : Endian) (room : ℕ) (entry : DirEntry) (later : List DirEntry) → IsGoodEntry entry → Each IsGoodEntry later → room ≤ 512 → room % 4 ≡ 0 → entry_length entry.name ≤ room
    → IsRest endian room (entry ∷ later) (entry_bytes endian entry room ++ packed endian 512 later)
last_rest endian room entry later good others small whole fits =
    let size = entry_room entry.name good.short in
    let least = size.0 in
    let own = entry_bytes endian entry room in
    let long = entry_long endian entry room (omega arith) in
    let read = subst (λ (bytes : List ℕ). IsRead endian entry room bytes) refl (read_entry endian entry room [] good small whole fits) in
    let alone = append-nil own in
    record {
      here = entry ∷ [];
      later = later;
      chunk = own;
      all = refl;
      less = omega arith;
      good = ((good, tt), others);
      size = long;
      fault = ap (fault_in endian 0) (sym alone) ∙ first_fault endian own [] room long (omega arith) read.taken read.fault ∙ nothing_left endian;
      are = ap (entries_in endian 0) (sym alone) ∙ first_entry endian own [] room entry long (omega arith) read.taken read.fault read.is
          ∙ ap (λ (es : List DirEntry). entry ∷ es) (no_entries endian);
      laid_bytes = refl;
    }

-- one entry, and then what is left
more_rest : (endian : Endian) (room reclen : ℕ) (entry : DirEntry) (others : List DirEntry) (rest : List ℕ) → IsGoodEntry entry → room ≤ 512 → reclen ≤ room → reclen % 4 ≡ 0
    → entry_length entry.name ≤ reclen → IsRest endian (room - reclen) others rest → IsRest endian room (entry ∷ others) (entry_bytes endian entry reclen ++ rest)
more_rest endian room reclen entry others rest good small low whole fits is =
    let size = entry_room entry.name good.short in
    let least = size.0 in
    let own = entry_bytes endian entry reclen in
    let long = entry_long endian entry reclen (omega arith) in
    let read = read_entry endian entry reclen is.chunk good (omega arith) whole fits in
    let sum = length-append own is.chunk in
    let rest_size = is.size in
    let less = is.less in
    let both = is.good in
    record {
      here = entry ∷ is.here;
      later = is.later;
      chunk = own ++ is.chunk;
      all = ap (λ (es : List DirEntry). entry ∷ es) is.all;
      less = omega arith;
      good = ((good, both.0), both.1);
      size = omega (arith, sum, long, rest_size, low);
      fault = first_fault endian own is.chunk reclen long (omega arith) read.taken read.fault ∙ is.fault;
      are = first_entry endian own is.chunk reclen entry long (omega arith) read.taken read.fault read.is ∙ ap (λ (es : List DirEntry). entry ∷ es) is.are;
      laid_bytes = ap (λ (xs : List ℕ). own ++ xs) is.laid_bytes ∙ sym (append_assoc own is.chunk (packed endian 512 is.later));
    }

quarter : (name : List ℕ) → entry_length name % 4 ≡ 0
quarter name = omega arith

pub rest_is : (endian : Endian) (room : ℕ) (entry : DirEntry) (further : List DirEntry) → IsGoodEntry entry → Each IsGoodEntry further → room ≤ 512 → room % 4 ≡ 0 → entry_length entry.name ≤ room
    → IsRest endian room (entry ∷ further) (packed endian room (entry ∷ further))
rest_is endian room entry [] good others small whole fits = last_rest endian room entry [] good others small whole fits
rest_is endian room entry (next ∷ further) good others small whole fits =
    rest_by endian room entry next further (nat_le (entry_length entry.name + entry_length next.name) room) good others small whole fits refl
    (λ room' small' whole' fits'. rest_is endian room' next further (others.0) (others.1) small' whole' fits')
  where
    same_room : (endian : Endian) (room : ℕ) (further : List DirEntry) → packed endian (room_after room room) further ≡ packed endian 512 further
    same_room endian room further = let e : (room == room) ≡ true = eq-eqb room room refl in ap (λ (b : Bool). packed endian (if b then 512 else room - room) further) e

    less_room : (endian : Endian) (room reclen : ℕ) (further : List DirEntry) → reclen < room → packed endian (room_after room reclen) further ≡ packed endian (room - reclen) further
    less_room endian room reclen further low =
        let e : (reclen == room) ≡ false = ne_eqb reclen room (λ same. omega arith) in ap (λ (b : Bool). packed endian (if b then 512 else room - reclen) further) e

    rest_by : (endian : Endian) (room : ℕ) (entry next : DirEntry) (further : List DirEntry) (more : Bool) → IsGoodEntry entry → Each IsGoodEntry (next ∷ further) → room ≤ 512 → room % 4 ≡ 0
        → entry_length entry.name ≤ room → nat_le (entry_length entry.name + entry_length next.name) room ≡ more
        → ((room' : ℕ) → room' ≤ 512 → room' % 4 ≡ 0 → entry_length next.name ≤ room' → IsRest endian room' (next ∷ further) (packed endian room' (next ∷ further)))
        → IsRest endian room (entry ∷ next ∷ further) (entry_bytes endian entry (if more then entry_length entry.name else room)
        ++ packed endian (room_after room (if more then entry_length entry.name else room)) (next ∷ further))
    rest_by endian room entry next further false good others small whole fits e rest =
        subst (λ (xs : List ℕ). IsRest endian room (entry ∷ next ∷ further) (entry_bytes endian entry room ++ xs)) (sym (same_room endian room (next ∷ further)))
        (last_rest endian room entry (next ∷ further) good others small whole fits)
    rest_by endian room entry next further true good others small whole fits e rest =
        let both = leb-true (entry_length entry.name + entry_length next.name) room e in
        let quarters = quarter entry.name in
        let after = entry_room next.name (let first = others.0 in first.short) in
        let some = after.0 in
        let own = entry_length entry.name in
        let left = rest (room - own) (omega arith) (omega (arith, whole, quarters, both)) (omega arith) in
        subst (λ (xs : List ℕ). IsRest endian room (entry ∷ next ∷ further) (entry_bytes endian entry own ++ xs)) (sym (less_room endian room own (next ∷ further) (omega arith)))
        (more_rest endian room own entry (next ∷ further) (packed endian (room - own) (next ∷ further)) good small (omega arith) quarters (let r : own ≤ own = omega arith in r) left)
