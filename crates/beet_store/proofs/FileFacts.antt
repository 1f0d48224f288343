-- What is held after one file is changed or added.
use Rattle.std.proofs.Common.{◌≡◌, ◌≢◌, ℕ, ◌+◌, ◌<◌, suc, Bool, true, false, List, [], ◌∷◌, ◌++◌, Option, Some, None}
use Rattle.std.proofs.Common.{if◌then◌else◌, length, get_or, take, drop, set, nat_eq, refl, sym, ◌∙◌, ap, drop-cons}
use Rattle.std.proofs.Common.{append-nil}
use Rattle.std.proofs.lemmas.List.{take-append-drop, take_more, set_split}
use Rattle.std.proofs.lemmas.Option.{slice_get-get_or, slice_get_within, get_or_from_slice_get}
use Rattle.std.specs.Cmp.Lexicographic.{pointwise, same_text, bytes_decides}
use Rattle.beet_store.specs.Files.{File, bytes_of}
use Rattle.beet_store.specs.Memory.{IsFirstOf}

other_name : (xs ys : List ℕ) (t : Bool) → t ≡ pointwise nat_eq xs ys → xs ≢ ys → pointwise nat_eq xs ys ≡ false
other_name xs ys true e apart = absurd (apart (same_text xs ys e))
other_name xs ys false e apart = sym e

-- the first file of a list, where it has the name and where it has not
head_is : (file : File) (files : List File) (name : List ℕ) → file.0 ≡ name → bytes_of (file ∷ files) name ≡ Some file.1
head_is file files name e = rw ((bytes_decides file.0 name).1 e) refl

head_not : (file : File) (files : List File) (name : List ℕ) → file.0 ≢ name → bytes_of (file ∷ files) name ≡ bytes_of files name
head_not file files name apart = rw (other_name file.0 name (pointwise nat_eq file.0 name) refl apart) refl

passed : (t : Bool) (v : List ℕ) (r s u : Option (List ℕ)) → (r ≡ None → s ≡ u) → (if t then Some v else r) ≡ None →
    (if t then Some v else s) ≡ u
passed true v r s u later e = absurd cc
passed false v r s u later e = later e

-- files without the name are passed over
bytes_of-append_none : (a b : List File) (name : List ℕ) → bytes_of a name ≡ None → bytes_of (a ++ b) name ≡ bytes_of b name
bytes_of-append_none [] b name none = refl
bytes_of-append_none (file ∷ a) b name none =
    passed (pointwise nat_eq file.0 name) file.1 (bytes_of a name) (bytes_of (a ++ b) name) (bytes_of b name)
    (bytes_of-append_none a b name) none

-- equal ends give equal wholes
bytes_of-append_same : (a b c : List File) (name : List ℕ) → bytes_of b name ≡ bytes_of c name →
    bytes_of (a ++ b) name ≡ bytes_of (a ++ c) name
bytes_of-append_same [] b c name same = same
bytes_of-append_same (file ∷ a) b c name same =
    ap (λ rest. if pointwise nat_eq file.0 name then Some file.1 else rest) (bytes_of-append_same a b c name same)

split_at : (files : List File) (i : ℕ) (file : File) → i < length files → file ≡ get_or files i file →
    files ≡ take i files ++ (file ∷ drop (suc i) files)
split_at files i file lt at =
    sym (take-append-drop i files)
    ∙ ap (λ rest. take i files ++ rest) (drop-cons files i file lt ∙ ap (λ f. f ∷ drop (suc i) files) (sym at))

-- one more file is passed
pub take_passed : (files : List File) (i : ℕ) (file : File) (text name : List ℕ) → i < length files → file ≡ get_or files i file →
    text ≡ file.0 → false ≡ pointwise nat_eq text name → bytes_of (take i files) name ≡ None → bytes_of (take (i + 1) files) name ≡ None
take_passed files i file text name lt at named apart none =
    rw (take_more files i file lt, ← at) (bytes_of-append_none (take i files) (file ∷ []) name none ∙ rw (← named, ← apart) refl)

-- the file is found
pub is_first : (files : List File) (i : ℕ) (file : File) (text name : List ℕ) → i < length files → file ≡ get_or files i file →
    text ≡ file.0 → true ≡ pointwise nat_eq text name → bytes_of (take i files) name ≡ None → IsFirstOf files name i
is_first files i file text name lt at named same none =
    (file, slice_get-get_or files i file lt ∙ ap Some (sym at), sym named ∙ same_text text name same, none)

-- the first file of the name is the one that is held
pub bytes_of-first : (files : List File) (i : ℕ) (file : File) (name : List ℕ) → IsFirstOf files name i → file ≡ get_or files i file →
    bytes_of files name ≡ Some file.1
bytes_of-first files i file name first at =
    let held = at ∙ get_or_from_slice_get files i first.0 file first.1 in
    let lt = slice_get_within files i first.0 first.1 in
    ap (λ fs. bytes_of fs name) (split_at files i file lt at)
    ∙ (bytes_of-append_none (take i files) (file ∷ drop (suc i) files) name first.3
    ∙ head_is file (drop (suc i) files) name (ap (λ (f : File). f.0) held ∙ first.2))

-- the first file of the name is replaced
pub replaced_file : (files : List File) (i : ℕ) (old : File) (text name bytes : List ℕ) → IsFirstOf files name i →
    old ≡ get_or files i old → text ≡ old.0 → bytes_of (set files i (text, bytes)) name ≡ Some bytes
replaced_file files i old text name bytes first at named =
    let same = named ∙ ap (λ (f : File). f.0) (at ∙ get_or_from_slice_get files i first.0 old first.1) ∙ first.2 in
    rw (set_split files i (text, bytes) (slice_get_within files i first.0 first.1)) (
    bytes_of-append_none (take i files) ((text, bytes) ∷ drop (suc i) files) name first.3
    ∙ head_is (text, bytes) (drop (suc i) files) name same)

pub replaced_others : (files : List File) (i : ℕ) (old : File) (text name bytes other : List ℕ) → IsFirstOf files name i →
    old ≡ get_or files i old → text ≡ old.0 → other ≢ name → bytes_of (set files i (text, bytes)) other ≡ bytes_of files other
replaced_others files i old text name bytes other first at named apart =
    let held : old.0 ≡ name = ap (λ (f : File). f.0) (at ∙ get_or_from_slice_get files i first.0 old first.1) ∙ first.2 in
    let lt = slice_get_within files i first.0 first.1 in
    let rest = drop (suc i) files in
    rw (set_split files i (text, bytes) lt) (
    bytes_of-append_same (take i files) ((text, bytes) ∷ rest) (old ∷ rest) other
    (head_not (text, bytes) rest other (λ e. apart (sym e ∙ (named ∙ held))) ∙ sym (head_not old rest other (λ e. apart (sym e ∙ held))))
    ∙ ap (λ fs. bytes_of fs other) (sym (split_at files i old lt at)))

-- a file is added under a name that is not held
pub added_file : (files : List File) (new : File) (name : List ℕ) → new.0 ≡ name → bytes_of files name ≡ None →
    bytes_of (files ++ new ∷ []) name ≡ Some new.1
added_file files new name named none = bytes_of-append_none files (new ∷ []) name none ∙ head_is new [] name named

pub added_others : (files : List File) (new : File) (other : List ℕ) → new.0 ≢ other →
    bytes_of (files ++ new ∷ []) other ≡ bytes_of files other
added_others files new other apart =
    bytes_of-append_same files (new ∷ []) [] other (head_not new [] other apart) ∙ ap (λ fs. bytes_of fs other) (append-nil files)
