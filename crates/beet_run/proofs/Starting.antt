-- Three servers begin a script with their points and words.
use Rattle.std.proofs.Common.{◌≡◌, ◌≤◌, ◌<◌, arith, drop, ℕ, List, [], length, take, sym, ◌∙◌, ap, subst, All}
use Rattle.beet_field.specs.Trio.{member}
use Rattle.beet_field.specs.declared.point.Point.{Point}
use Rattle.beet_field.specs.declared.point.Point.TheVariants.{One, Two, Three}
use Rattle.beet_field.specs.declared.trio.Trio.{Trio}
use Rattle.beet_words.specs.Words.{IsWord, accepted}
use Rattle.beet_words.specs.Tapes.{Tape, left_of}
use Rattle.beet_gates.specs.Clear.{with_lets}
use Rattle.beet_gates.specs.declared.Batch.{Batch}
use Rattle.beet_gates.specs.declared.Linear.{Linear}
use Rattle.beet_server.specs.Cores.{Core, AreFresh, IsFresh, fresh, setup_of, unpassed}
use Rattle.beet_sharing.specs.Runs.{numbers_of}
use Rattle.beet_server.proofs.Starting.{first-wires}
use Rattle.beet_load.specs.Counts.{Counts}
use Rattle.beet_load.specs.Servers.{HasEnough, HaveEnough, ServerWords}
use Rattle.beet_run.specs.Runs.{StartScript, setup_from}

-- where all servers have enough words, each has
pub each-has : (counts : Counts) (words : Trio ServerWords) → HaveEnough counts words → (i : Point) → HasEnough counts (member words i)
each-has counts words h One = h.one
each-has counts words h Two = h.two
each-has counts words h Three = h.three

-- words that are enough are not too few
pub enough-numbers : (wanted : ℕ) (words : ServerWords) (masks numbers : Tape) (have : ℕ) →
    record { masks = masks.words; coefficients = numbers.words } ≡ words → numbers.passed ≡ 0 →
    wanted ≤ length (accepted words.coefficients) → have ≡ length (left_of numbers) → have < wanted → ⊥
enough-numbers wanted words masks numbers have v zero enough is less =
    let left = ap (λ n. length (accepted (drop n numbers.words))) zero in
    let same = ap (λ (w : ServerWords). length (accepted w.coefficients)) v in
    absurd (omega (arith, left, same, enough, is, less))

pub enough-masks : (wanted : ℕ) (words : ServerWords) (masks numbers : Tape) (have : ℕ) →
    record { masks = masks.words; coefficients = numbers.words } ≡ words →
    wanted ≤ length words.masks → have ≡ length masks.words → have < wanted → ⊥
enough-masks wanted words masks numbers have v enough is less =
    let same = ap (λ (w : ServerWords). length w.masks) v in
    absurd (omega (arith, same, enough, is, less))

front : (n : ℕ) (xs : List ℕ) (lets : List Linear) → length xs ≡ n → take n (with_lets xs lets) ≡ xs
front n xs lets h = subst (λ k. take k (with_lets xs lets) ≡ xs) h (first-wires xs lets)

module _ {S : Type 0} (next : S → ℕ → List ℕ → Batch) (wanted : S → ℕ) (script : S) where
  -- a server that begins with its points and words
  abbrev pub StartsAt : Point → List ℕ → ServerWords → Core S → Type 0
  StartsAt me inputs words core =
      (core ≡ fresh next me script inputs (unpassed next words.masks)
      (unpassed next words.coefficients)) × IsFresh next wanted core × All IsWord words.masks

  -- three servers that do
  pub record Begin (inputs : Trio (List ℕ)) (words : Trio ServerWords) (cores : Trio (Core S)) : Type 0 where
    pub one : StartsAt One inputs.one words.one cores.one
    pub two : StartsAt Two inputs.two words.two cores.two
    pub three : StartsAt Three inputs.three words.three cores.three

  first-of : (c : Core S) (me : Point) (xs : List ℕ) (w : ServerWords) → StartsAt me xs w c → length xs ≡ wanted script →
      take (wanted c.script) c.wires ≡ xs
  first-of c me xs w h count =
      ap (λ (c : Core S). take (wanted c.script) c.wires) h.0
      ∙ front (wanted script) xs (next script 0 []).lets.items count

  module _ (inputs : Trio (List ℕ)) (words : Trio ServerWords) (cores : Trio (Core S)) (s : Begin inputs words cores)
      (many : (i : Point) → length (member inputs i) ≡ wanted script) where
    are-fresh : AreFresh next wanted cores
    are-fresh = record {
      one = (ap (λ (c : Core S). c.me) s.one.0, s.one.1);
      two = (ap (λ (c : Core S). c.me) s.two.0, s.two.1);
      three = (ap (λ (c : Core S). c.me) s.three.0, s.three.1);
      script_two = ap (λ (c : Core S). c.script) s.two.0 ∙ sym (ap (λ (c : Core S). c.script) s.one.0);
      script_three = ap (λ (c : Core S). c.script) s.three.0 ∙ sym (ap (λ (c : Core S). c.script) s.one.0);
    }

    has-script : (i : Point) → (member cores i).script ≡ script
    has-script One = ap (λ (c : Core S). c.script) s.one.0
    has-script Two = ap (λ (c : Core S). c.script) s.two.0
    has-script Three = ap (λ (c : Core S). c.script) s.three.0

    has-masks : (i : Point) → (member cores i).masks.words ≡ (member words i).masks
    has-masks One = ap (λ (c : Core S). c.masks.words) s.one.0
    has-masks Two = ap (λ (c : Core S). c.masks.words) s.two.0
    has-masks Three = ap (λ (c : Core S). c.masks.words) s.three.0

    has-coefficients : (i : Point) → (member cores i).coefficients.words ≡ (member words i).coefficients
    has-coefficients One = ap (λ (c : Core S). c.coefficients.words) s.one.0
    has-coefficients Two = ap (λ (c : Core S). c.coefficients.words) s.two.0
    has-coefficients Three = ap (λ (c : Core S). c.coefficients.words) s.three.0

    has-setup : setup_of next wanted cores ≡ setup_from next wanted script inputs words
    has-setup =
        let one = first-of cores.one One inputs.one words.one s.one (many One) in
        let two = first-of cores.two Two inputs.two words.two s.two (many Two) in
        let three = first-of cores.three Three inputs.three words.three s.three (many Three) in
        λ i. record {
          next = next (has-script One i);
          inputs = record { one = one i; two = two i; three = three i };
          masks = record { one = has-masks One i; two = has-masks Two i; three = has-masks Three i };
          numbers = numbers_of (record { one = has-coefficients One i; two = has-coefficients Two i; three = has-coefficients Three i });
        }

    -- so they begin it
    pub begins : StartScript next wanted script inputs words cores
    begins = record {
      fresh = are-fresh;
      script = has-script;
      setup = has-setup;
      masks = has-masks;
      coefficients = has-coefficients;
      are_masks = record { one = s.one.2; two = s.two.2; three = s.three.2 };
    }
