-- The records that are left of a text.
use Rattle.std.proofs.Common.{◌≡◌, ℕ, zero, suc, ◌+◌, ◌<◌, ◌≤◌, List, [], ◌∷◌, length, Bool, true, false, if◌then◌else◌}
use Rattle.std.proofs.Common.{◌==◌, ◌&&◌, Option, Some, None, subst, refl, arith, ap, ◌++◌}
use Rattle.csv.specs.Machine.{Read, next_record, step, is_end, ends_at_end, ends_with, after_end, is_byte, in_field}
use Rattle.csv.specs.Machine.{start_field, start_record, fields_after, field_after}
use Rattle.csv.specs.Reading.{default_config, NextIs, records, records_from, records_next, strip_bom, is_bom}
use Rattle.beet_forms.specs.RowReaders.{Gives}
use Rattle.csv.specs.declared.parser.Config.{Config}
use Rattle.csv.specs.declared.parser.State.{State}
use Rattle.csv.specs.declared.parser.State.TheVariants as st
use Rattle.csv.specs.declared.parser.Action.{Action}
use Rattle.csv.specs.declared.parser.Action.TheVariants as act
use Rattle.csv.specs.declared.parser.Terminator.{Terminator}
use Rattle.csv.specs.declared.parser.Terminator.TheVariants as term

-- where the byte ends a record, the state after it is between two records
abbrev Rests : State × Action → Type 0
Rests x = is_end x.1 ≡ true → ends_at_end x.0 ≡ false

rests-if : (b : Bool) (x y : State × Action) → Rests x → Rests y → Rests (if b then x else y)
rests-if true x y p q = p
rests-if false x y p q = q

rests-after_end : (t : Terminator) (c : ℕ) → ends_at_end (after_end t c) ≡ false
rests-after_end term.CRLF c = elim (c == 13) as (λ v. ends_at_end (if v then st.AfterCr else st.StartRecord) ≡ false)
    [ true ↦ refl | false ↦ refl ]
rests-after_end (term.Any t) c = refl

plain : (s : State) (a : Action) → is_end a ≡ false → Rests (s, a)
plain s a e h = cc (e, h)

rests-in_field : (cfg : Config) (c : ℕ) → Rests (in_field cfg c)
rests-in_field cfg c =
    rests-if (c == cfg.delimiter) _ _ (plain st.StartField act.EndField refl)
    (rests-if (ends_with cfg.terminator c) _ _ (λ _. rests-after_end cfg.terminator c) (plain st.InField act.Copy refl))

rests-start_field : (cfg : Config) (c : ℕ) → Rests (start_field cfg c)
rests-start_field cfg c = rests-if (cfg.quoting && (c == cfg.quote)) _ _ (plain st.InQuoted act.Skip refl) (rests-in_field cfg c)

rests-start_record : (cfg : Config) (c : ℕ) → Rests (start_record cfg c)
rests-start_record cfg c =
    rests-if (ends_with cfg.terminator c) _ _ (plain st.StartRecord act.Skip refl)
    (rests-if (is_byte cfg.comment c) _ _ (plain st.InComment act.Skip refl) (rests-start_field cfg c))

rests-step : (cfg : Config) (s : State) (c : ℕ) → Rests (step cfg s c)
rests-step cfg st.StartRecord c = rests-start_record cfg c
rests-step cfg st.StartField c = rests-start_field cfg c
rests-step cfg st.InField c = rests-in_field cfg c
rests-step cfg st.InQuoted c =
    rests-if (cfg.quoting && (c == cfg.quote)) _ _ (plain st.AfterQuote act.Skip refl)
    (rests-if (cfg.quoting && is_byte cfg.escape c) _ _ (plain st.InEscape act.Skip refl) (plain st.InQuoted act.Copy refl))
rests-step cfg st.InEscape c = plain st.InQuoted act.Copy refl
rests-step cfg st.AfterQuote c =
    rests-if (cfg.quoting && cfg.double_quote && (c == cfg.quote)) _ _ (plain st.InQuoted act.Copy refl) (rests-in_field cfg c)
rests-step cfg st.InComment c = rests-if (c == 10) _ _ (plain st.StartRecord act.Skip refl) (plain st.InComment act.Skip refl)
rests-step cfg st.AfterCr c = rests-if (c == 10) _ _ (plain st.StartRecord act.Skip refl) (rests-start_record cfg c)

-- one more record may come of the state alone, at the text's end
abbrev spare : State → ℕ
spare s = if ends_at_end s then 1 else 0

spare-le : (s : State) → spare s ≤ 1
spare-le s = elim (ends_at_end s) as (λ v. (if v then 1 else 0) ≤ 1) [ true ↦ omega arith | false ↦ omega arith ]

-- between two records, with at most n bytes left over
abbrev Left : ℕ → Read → Type 0
Left n p = (ends_at_end p.1 ≡ false) × (length p.2 + 1 ≤ n)

either : (b : Bool) (n : ℕ) (x p : Read) (o : Option Read) →
    (if b then Some x else o) ≡ Some p → (b ≡ true → Left n x) → (b ≡ false → o ≡ Some p → Left n p) → Left n p
either true n x p o e f g = let h : x ≡ p = cc e in subst (Left n) h (f refl)
either false n x p o e f g = g refl e

at-end : (s : State) (fields : List (List ℕ)) (p : Read) →
    (if ends_at_end s then Some (fields, st.StartRecord, []) else None) ≡ Some p → Left (spare s) p
at-end s fields p e =
    either (ends_at_end s) (spare s) (fields, st.StartRecord, []) p None e
    (λ h. (refl, rw h (omega arith)))
    (λ h k. cc k)

-- a record takes a byte, or the one that the text's end gives
shorter : (cfg : Config) (s : State) (fields : List (List ℕ)) (field xs : List ℕ) (p : Read) →
    next_record cfg s fields field xs ≡ Some p → Left (length xs + spare s) p
unfolding next_record
shorter cfg s fields field [] p e =
    let h = at-end s (fields ++ (field ∷ [])) p e in (h.0, omega (arith, h.1))
shorter cfg s fields field (c ∷ rest) p e =
    either (is_end (step cfg s c).1) _ _ p _ e
    (λ h. (rests-step cfg s c h, omega arith))
    (λ h k.
    let t = step cfg s c in
    let i = shorter cfg t.0 (fields_after t.1 fields field) (field_after t.1 c field) rest p k in
    let small : spare t.0 ≤ 1 = spare-le t.0 in
    (i.0, omega (arith, i.1)))

length_if : (b : Bool) (n : ℕ) (xs ys : List ℕ) → length xs ≤ n → length ys ≤ n → length (if b then xs else ys) ≤ n
length_if true n xs ys h k = h
length_if false n xs ys h k = k

-- a byte order mark that is taken off makes the text no longer
pub length-strip_bom : (xs : List ℕ) → length (strip_bom xs) ≤ length xs
unfolding strip_bom
length-strip_bom [] = omega arith
length-strip_bom (a ∷ []) = omega arith
length-strip_bom (a ∷ b ∷ []) = omega arith
length-strip_bom (a ∷ b ∷ c ∷ rest) = length_if (is_bom a b c) _ _ _ (omega arith) (omega arith)

-- with enough turns all records of a text come, however many more turns there are
pub enough_turns : (cfg : Config) (s : State) (xs : List ℕ) (m n : ℕ) → length xs + spare s < m → length xs + spare s < n →
    records_from cfg m s xs ≡ records_from cfg n s xs
unfolding records_from
enough_turns cfg s xs zero n h k = absurd (omega arith)
enough_turns cfg s xs (suc m) zero h k = absurd (omega arith)
enough_turns cfg s xs (suc m) (suc n) h k =
    from (next_record cfg s [] [] xs) refl (λ p e.
    let left = shorter cfg s [] [] xs p e in
    let none : spare p.1 ≡ 0 = rw left.0 refl in
    enough_turns cfg p.1 p.2 m n (omega (arith, left.1, none)) (omega (arith, left.1, none)))
  where
    from : (o : Option Read) → next_record cfg s [] [] xs ≡ o →
        ((p : Read) → next_record cfg s [] [] xs ≡ Some p → records_from cfg m p.1 p.2 ≡ records_from cfg n p.1 p.2) →
        records_next (records_from cfg m) o ≡ records_next (records_from cfg n) o
    from None e more = refl
    from (Some p) e more = ap (λ rs. p.0 ∷ rs) (more p e)

-- a record that is read is the first of those that a text has left
pub first_left : (cfg : Config) (s s2 : State) (xs ys : List ℕ) (o : Option Read) (found : Bool) (fields : List (List ℕ)) →
    next_record cfg s [] [] xs ≡ o → NextIs o found fields s2 ys →
    Gives found (records_from cfg (length xs + 2) s xs) fields (records_from cfg (length ys + 2) s2 ys)
unfolding records_from
first_left cfg s s2 xs ys None found fields e is =
    let turn : length xs + 2 ≡ suc (length xs + 1) = omega arith in
    rw (is, turn, e) refl
first_left cfg s s2 xs ys (Some p) found fields e (is, same, state, rest) =
    let left = shorter cfg s [] [] xs p e in
    let none : spare p.1 ≡ 0 = rw left.0 refl in
    let small : spare s ≤ 1 = spare-le s in
    let turn : length xs + 2 ≡ suc (length xs + 1) = omega arith in
    rw (is, same, state, rest, turn, e)
    (ap (λ rs. p.0 ∷ rs) (enough_turns cfg p.1 p.2 (length xs + 1) (length p.2 + 2) (omega (arith, left.1, none, small))
    (omega (arith, none))))

-- from its start, a text has all its records left
pub all_left : (cfg : Config) (xs : List ℕ) → records_from cfg (length xs + 2) st.StartRecord xs ≡ records cfg xs
all_left cfg xs = enough_turns cfg st.StartRecord xs (length xs + 2) (length xs + 1) (omega arith) (omega arith)

-- however many turns there are, no more records come than the text has bytes
turns_few : (cfg : Config) (s : State) (xs : List ℕ) (n : ℕ) → length (records_from cfg n s xs) ≤ length xs + spare s
unfolding records_from
turns_few cfg s xs zero = omega arith
turns_few cfg s xs (suc n) = from (next_record cfg s [] [] xs) refl (λ p. turns_few cfg p.1 p.2 n) where
  from : (o : Option Read) → next_record cfg s [] [] xs ≡ o → ((p : Read) → length (records_from cfg n p.1 p.2) ≤ length p.2 + spare p.1) →
      length (records_next (records_from cfg n) o) ≤ length xs + spare s
  from None e more = omega arith
  from (Some p) e more =
      let left = shorter cfg s [] [] xs p e in
      let none : spare p.1 ≡ 0 = rw left.0 refl in
      omega (arith, left.1, none, more p)

-- a text has no more rows than bytes
pub rows_few : (xs : List ℕ) → length (records default_config (strip_bom xs)) ≤ length xs
rows_few xs = omega (arith, turns_few default_config st.StartRecord (strip_bom xs) (length (strip_bom xs) + 1), length-strip_bom xs)
