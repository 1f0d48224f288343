-- All that is said of the mapped words.
use Rattle.std.proofs.Common.{◌≡◌, ◌≤◌, ℕ, List, length, slice_index, sym, refl, subst, ◌∙◌, arith}
use Rattle.beet_field.specs.Field.{IsElement}
use Rattle.beet_field.specs.Trio.{member}
use Rattle.beet_field.specs.declared.point.Point.{Point}
use Rattle.beet_field.specs.declared.point.Point.TheVariants.{One, Two, Three}
use Rattle.beet_field.specs.declared.trio.Trio.{Trio}
use Rattle.beet_words.specs.Words.{accepted, ones_in}
use Rattle.beet_words.proofs.WordLists.{accepted_small, words_same}
use Rattle.beet_gates.specs.Clear.{EndsAfter, is_end}
use Rattle.beet_gates.specs.Deals.{deals_of}
use Rattle.beet_gates.specs.declared.Batch.{Batch}
use Rattle.beet_sharing.specs.Runs.{HasRounds, Setup, coming, numbers_of, rounds_among}
use Rattle.beet_sharing.proofs.LinesLaw.{same-rounds}
use Rattle.beet_sharing.proofs.Rounds.{among-rounds}
use Rattle.beet_map.specs.Secrets.{Secrets, begin_in, slopes_of, values_of}
use Rattle.beet_map.specs.Mapped.{AreWords, GateMapped, IsOnlyImage, IsOnlySource, LooksAlike, WordsLookAlike}
use Rattle.beet_map.specs.Mapped.{WordsMapped}
use Rattle.beet_map.specs.Premise.{FitBack, MayMap, SamePlaces}
use Rattle.beet_map.proofs.Alike.{alike_at, messages_at, same_batch, standing_alike_at}
use Rattle.beet_map.proofs.Symmetry.{AreElements, only_one_back}
use Rattle.beet_map.proofs.Unique.{only_one}

member_numbers : (c : Trio (List ℕ)) (j : Point) → member (numbers_of c) j ≡ accepted (member c j)
member_numbers c One = refl
member_numbers c Two = refl
member_numbers c Three = refl

-- the numbers of words are those of the field
pub all_small : (c : Trio (List ℕ)) → AreWords c → AreElements (numbers_of c)
all_small c few j n = subst (λ l. IsElement (slice_index l n)) (sym (member_numbers c j)) (accepted_small (member c j) (few j) n)

all_same : (c d : Trio (List ℕ)) → ((j : Point) → ones_in (member d j) ≡ ones_in (member c j)) → numbers_of d ≡ numbers_of c → d ≡ c
all_same c d places same = λ i. record {
  one = words_same d.one c.one (places One) (λ k. (same k).one) i;
  two = words_same d.two c.two (places Two) (λ k. (same k).two) i;
  three = words_same d.three c.three (places Three) (λ k. (same k).three) i;
}

pub fit_back : (me : Point) (rounds : ℕ) (first second : Setup) (c m : Trio (List ℕ)) → first.numbers ≡ numbers_of c → second.numbers ≡ m →
    GateMapped me rounds first second → FitBack c m
fit_back me rounds first second c m is is' g =
    let each : (j : Point) → length (member m j) ≡ length (member (numbers_of c) j) =
    λ j. (λ i. length (member (sym is' i) j)) ∙ g.lengths j ∙ (λ i. length (member (is i) j)) in
    record { one = each One; two = each Two; three = each Three }

-- two worlds that look alike to a server, and the rounds of their runs
pub record AreAlike (next : ℕ → List ℕ → Batch) (most : ℕ) (me : Point) (rounds : ℕ) (w w' : Secrets) : Type 0 where
  pub may : MayMap next me rounds w w'
  pub ends : EndsAfter next (deals_of w.masks) (values_of w.inputs) rounds
  pub few : rounds ≤ most

module _ (next : ℕ → List ℕ → Batch) (most : ℕ) (me : Point) (rounds : ℕ) (w w' : Secrets) (a : AreAlike next most me rounds w w') where
  has_rounds : (numbers : Trio (List ℕ)) → HasRounds (begin_in next w numbers) rounds
  has_rounds numbers = (same-rounds (begin_in next w numbers) (values_of w.inputs) (slopes_of w.inputs) a.may.lines rounds).1 a.ends

  rounds_of : (numbers : Trio (List ℕ)) → rounds_among (begin_in next w numbers) most ≡ rounds
  rounds_of numbers = among-rounds (begin_in next w numbers) rounds most (has_rounds numbers) a.few

  mapped_over : (c d : Trio (List ℕ)) → WordsMapped next most me w w' c d →
      GateMapped me rounds (begin_in next w (numbers_of c)) (begin_in next w' (numbers_of d))
  mapped_over c d m = subst (λ r. GateMapped me r (begin_in next w (numbers_of c)) (begin_in next w' (numbers_of d)))
      (rounds_of (numbers_of c)) m.numbers

  looks : (n m : Trio (List ℕ)) → GateMapped me rounds (begin_in next w n) (begin_in next w' m) →
      LooksAlike me rounds (begin_in next w n) (begin_in next w' m)
  looks n m g =
      let first : Setup = begin_in next w n in
      let second : Setup = begin_in next w' m in
      let coming_same : (t : ℕ) → t ≤ rounds → coming second t ≡ coming first t =
      λ t le. same_batch next me w w' n m rounds a.may g t (alike_at next me w w' n m rounds a.may g t le) in
      record {
        first_ends = has_rounds n;
        second_ends = record {
          ends = (λ i. is_end (coming_same rounds (omega arith) i).act) ∙ (has_rounds n).ends;
          goes = λ t lt. (λ i. is_end (coming_same t (omega arith) i).act) ∙ (has_rounds n).goes t lt;
        };
        points = λ t le. (alike_at next me w w' n m rounds a.may g t le).mine;
        standing = λ t le. (standing_alike_at next me w w' n m rounds a.may g t le).mine;
        opened = λ t le. (alike_at next me w w' n m rounds a.may g t le).opened;
        messages = λ t lt from. messages_at next me w w' n m rounds a.may g t lt from;
      }

  only : (c d e : Trio (List ℕ)) → WordsMapped next most me w w' c d → WordsMapped next most me w w' c e → e ≡ d
  only c d e m m' =
      all_same d e (λ j. m'.places j ∙ sym (m.places j))
      (only_one next me rounds w w' a.may (numbers_of c) (numbers_of d) (numbers_of e) (mapped_over c d m) (mapped_over c e m'))

  back : (c d e : Trio (List ℕ)) → AreWords c → AreWords e → WordsMapped next most me w w' c d → WordsMapped next most me w w' e d → e ≡ c
  back c d e few few' m m' =
      all_same c e (λ j. sym (m'.places j) ∙ m.places j)
      (only_one_back next me rounds w w' a.may (numbers_of c) (numbers_of e) (numbers_of d) (all_small c few) (all_small e few')
      (mapped_over c d m) (mapped_over e d m'))

  pub record WholeWords (c d : Trio (List ℕ)) : Type 0 where
    pub mapped : WordsMapped next most me w w' c d
    pub looks_alike : WordsLookAlike next most me w w' c d
    pub only_image : IsOnlyImage next most me w w' c d
    pub only_source : IsOnlySource next most me w w' c d

  pub whole_words : (c d n m : Trio (List ℕ)) → AreWords c → n ≡ numbers_of c →
      GateMapped me rounds (begin_in next w n) (begin_in next w' m) →
      numbers_of d ≡ m → SamePlaces d c → WholeWords c d
  whole_words c d n m few from g to places =
      let h : GateMapped me rounds (begin_in next w (numbers_of c)) (begin_in next w' (numbers_of d)) =
      subst (λ x. GateMapped me rounds (begin_in next w (numbers_of c)) (begin_in next w' x)) (sym to)
      (subst (λ x. GateMapped me rounds (begin_in next w x) (begin_in next w' m)) from g) in
      let at : (j : Point) → ones_in (member d j) ≡ ones_in (member c j) = places_at places in
      let whole : WordsMapped next most me w w' c d = record {
        places = at;
        own = words_same (member d me) (member c me) (at me) (sym (member_numbers d me) ∙ h.own ∙ member_numbers c me);
        numbers = subst (λ r. GateMapped me r (begin_in next w (numbers_of c)) (begin_in next w' (numbers_of d)))
            (sym (rounds_of (numbers_of c))) h;
      } in
      record {
        mapped = whole;
        looks_alike = subst (λ r. LooksAlike me r (begin_in next w (numbers_of c)) (begin_in next w' (numbers_of d)))
            (sym (rounds_of (numbers_of c)))
            (looks (numbers_of c) (numbers_of d) h);
        only_image = λ e k. only c d e whole k;
        only_source = λ e few' k. back c d e few few' whole k;
      }
    where
      places_at : SamePlaces d c → (j : Point) → ones_in (member d j) ≡ ones_in (member c j)
      places_at p One = p.one
      places_at p Two = p.two
      places_at p Three = p.three
