-- Words of two worlds of a script: they are mapped in one way, and the runs look alike to the server.
use Rattle.std.proofs.Common.{◌≡◌, ℕ, List, map, length, refl, ap, subst, sym, ◌∙◌}
use Rattle.std.specs.Prelude.{All}
use Rattle.beet_field.specs.Field.{IsElement, neg_of}
use Rattle.beet_field.specs.Trio.{member}
use Rattle.beet_field.proofs.Trios.{at-each}
use Rattle.beet_field.specs.declared.point.Point.{Point}
use Rattle.beet_field.specs.declared.point.Point.TheVariants.{One, Two, Three}
use Rattle.beet_field.specs.declared.trio.Trio.{Trio}
use Rattle.beet_words.specs.Bundles.{Words, AreWords}
use Rattle.beet_words.specs.Words.{IsWord}
use Rattle.beet_gates.specs.declared.Batch.{Batch}
use Rattle.beet_gates.proofs.EachFacts.{each-same}
use Rattle.beet_shamir.specs.declared.Line.{Line}
use Rattle.beet_masking.specs.Masks.{AreMasks}
use Rattle.beet_masking.proofs.Words.{word-small}
use Rattle.beet_round.specs.Sides.{peer}
use Rattle.beet_round.specs.declared.sides.Side.TheVariants.{Low, High}
use Rattle.beet_sharing.specs.Runs.{Setup, numbers_of, rounds_among}
use Rattle.beet_sharing.specs.Seen.{SeenRun, round_seen, rounds_seen, run_seen}
use Rattle.beet_sharing.proofs.Rounds.{among-few, among-rounds}
use Rattle.beet_map.specs.Mapped.{AreWords as AreAllWords, GateMapped, LooksAlike, run_with}
use Rattle.beet_map.specs.Secrets.{shares_of}
use Rattle.beet_map_laws.specs.Pairs.{GoTogether}
use Rattle.beet_turned.specs.MappedMasks.{MasksMapped}
use Rattle.beet_turned.proofs.MaskFacts.{own-same}
use Rattle.beet_turned.proofs.MasksBack.{masks-back, masks-only}
use Rattle.beet_mapped.specs.Dealers.{Party, DealersMapped, dealers_of}
use Rattle.beet_mapped.specs.Trades.{IsOnly, Trade, TradesMapped, dealers_in, rounds_in, setup_in}
use Rattle.beet_mapped.proofs.DealerFacts.{AreElements, dealers-only, dealers-back, words-told, told-parties}
use Rattle.beet_mapped.proofs.DealerFacts.{dealers-words, dealers-elements}

-- what a server sees of the run
abbrev pub seen_in : Trade → Words → Point → SeenRun
seen_in trade words s =
    run_seen (setup_in trade words) s (rounds_in trade words) (member words.masks s) (member words.coefficients s)

pub are-masks : (words : Words) → AreWords words → AreMasks words.masks
are-masks words w = record { one = w.masks.0; two = w.masks.1; three = w.masks.2 }

pub all-words : (words : Words) → AreWords words → AreAllWords words.coefficients
all-words words w s = word-small (member words.coefficients s) (at-each (All IsWord) words.coefficients w.coefficients s)

-- lines with the inputs as their points
abbrev pub AreInputLines : Trade → List (List ℕ) → List Line → Type 0
AreInputLines trade words lines = (i : Point) → shares_of lines i ≡ member (trade.inputs words) i

-- the setup of a world of lines is that of the trade
begun : (next : ℕ → List ℕ → Batch) (trade : Trade) (words : Words) (lines : List Line) → trade.next ≡ next →
    AreInputLines trade words.bidders lines →
    run_with next (record { inputs = lines; masks = words.masks }) words.coefficients ≡ setup_in trade words
begun next trade words lines same a = λ x. record {
  next = sym same x;
  inputs = record { one = a One x; two = a Two x; three = a Three x };
  masks = words.masks;
  numbers = numbers_of words.coefficients;
}

gate-along : (me : Point) (most : ℕ) (o p o' p' : Setup) → o ≡ p → o' ≡ p' → GateMapped me (rounds_among o most) o o' →
    GateMapped me (rounds_among p most) p p'
gate-along me most o p o' p' e e' g =
    subst (λ x. GateMapped me (rounds_among p most) p x) e' (subst (λ x. GateMapped me (rounds_among x most) x o') e g)

look-along : (me : Point) (most : ℕ) (o p o' p' : Setup) → o ≡ p → o' ≡ p' → LooksAlike me (rounds_among o most) o o' →
    LooksAlike me (rounds_among p most) p p'
look-along me most o p o' p' e e' g =
    subst (λ x. LooksAlike me (rounds_among p most) p x) e' (subst (λ x. LooksAlike me (rounds_among x most) x o') e g)

-- what holds once the masks and the words of the parties are mapped
pub record Stands (me : Point) (losses : List ℕ) (first second : Trade) (words : Words) (masks : Trio (List ℕ)) (lists : List (List ℕ))
    (lines lines' : List Line) : Type 0 where
  pub script : second.next ≡ first.next
  pub most : second.most ≡ first.most
  pub lost : All IsElement losses
  pub elements : All (λ (b : Party). AreElements b.quantities) first.parties
  pub elements' : All (λ (b : Party). AreElements b.quantities) second.parties
  pub count : length words.bidders ≡ length first.parties
  pub count' : length second.parties ≡ length first.parties
  pub are_words : AreWords words
  pub lists_same : length lists ≡ length words.bidders
  pub masks_mapped : MasksMapped me losses words.masks masks
  pub dealers_mapped : DealersMapped me (dealers_of first.parties words.bidders) (dealers_of second.parties lists)
  pub here : AreInputLines first words.bidders lines
  pub there : AreInputLines second lists lines'

module _ (me : Point) (losses : List ℕ) (first second : Trade) (words : Words) (masks coefficients : Trio (List ℕ)) (lists : List (List ℕ))
    (lines lines' : List Line) (s : Stands me losses first second words masks lists lines lines')
    (c : GoTogether first.next first.most me (record { inputs = lines; masks = words.masks }) (record { inputs = lines'; masks = masks })
    words.coefficients coefficients)
    (are_words' : AreWords (record { masks = masks; coefficients = coefficients; bidders = lists })) where
  abbrev words' : Words
  words' = record { masks = masks; coefficients = coefficients; bidders = lists }

  abbrev most : ℕ
  most = first.most

  abbrev ran : Trio (List ℕ) → Setup
  ran numbers = run_with first.next (record { inputs = lines; masks = words.masks }) numbers

  abbrev ran' : Trio (List ℕ) → Setup
  ran' numbers = run_with first.next (record { inputs = lines'; masks = masks }) numbers

  begun-here : ran words.coefficients ≡ setup_in first words
  begun-here = begun first.next first words lines refl s.here

  begun-there : ran' coefficients ≡ setup_in second words'
  begun-there = begun first.next second words' lines' s.script s.there

  pub look : LooksAlike me (rounds_in first words) (setup_in first words) (setup_in second words')
  look = look-along me most (ran words.coefficients) (setup_in first words) (ran' coefficients)
      (setup_in second words') begun-here begun-there c.looks

  pub trades-mapped : TradesMapped me losses first words second words'
  trades-mapped = record {
    lists = s.lists_same;
    are_words = s.are_words;
    are_words' = are_words';
    masks = s.masks_mapped;
    dealers = s.dealers_mapped;
    places = c.mapped.places;
    own = c.mapped.own;
    numbers = gate-along me most (ran words.coefficients) (setup_in first words) (ran' coefficients)
        (setup_in second words') begun-here begun-there
        c.mapped.numbers;
  }

  -- the server sees the same of both runs
  pub rounds-same : rounds_in second words' ≡ rounds_in first words
  rounds-same =
      ap (rounds_among (setup_in second words')) s.most
      ∙ among-rounds (setup_in second words') (rounds_in first words) most look.second_ends
      (among-few (setup_in first words) most)

  rounds-alike : rounds_seen (setup_in second words') me (rounds_in first words)
      ≡ rounds_seen (setup_in first words) me (rounds_in first words)
  rounds-alike =
      each-same (round_seen (setup_in second words') me) (round_seen (setup_in first words) me) (rounds_in first words)
      (λ t lt x. (look.messages t lt (peer me Low) x, look.messages t lt (peer me High) x))

  pub seen-same : seen_in second words' me ≡ seen_in first words me
  seen-same = λ x. record {
    masks = own-same losses words.masks masks me s.masks_mapped x;
    coefficients = c.mapped.own x;
    rounds = (ap (rounds_seen (setup_in second words') me) rounds-same ∙ rounds-alike) x;
  }

  long : length lists ≡ length second.parties
  long = s.lists_same ∙ s.count ∙ sym s.count'

  pub only : IsOnly (TradesMapped me losses first words second) words'
  only other m =
      let masks_same : other.masks ≡ masks = masks-only losses words.masks me other.masks masks m.masks s.masks_mapped in
      let many : length other.bidders ≡ length second.parties = m.lists ∙ s.count ∙ sym s.count' in
      let lists_same : other.bidders ≡ lists =
      words-told second.parties other.bidders lists many long
      (dealers-only me (dealers_in first words) (dealers_in second other) (dealers_in second words')
      (told-parties second.parties other.bidders many ∙ sym (told-parties second.parties lists long)) m.dealers s.dealers_mapped) in
      let there_same : setup_in second other ≡ ran' other.coefficients =
      (λ x. record {
        next = second.next;
        inputs = second.inputs (lists_same x);
        masks = masks_same x;
        numbers = numbers_of other.coefficients;
      })
      ∙ sym (begun first.next second (record { masks = masks; coefficients = other.coefficients; bidders = lists })
      lines' s.script s.there) in
      let same : other.coefficients ≡ coefficients = c.only other.coefficients (record {
        places = m.places;
        own = m.own;
        numbers = gate-along me most (setup_in first words) (ran words.coefficients) (setup_in second other)
            (ran' other.coefficients) (sym begun-here) there_same
            m.numbers;
      }) in
      λ x. record { masks = masks_same x; coefficients = same x; bidders = lists_same x }

  first-back : (other : Words) → AreWords other → DealersMapped me (dealers_in first other) (dealers_in second words') →
      DealersMapped me (dealers_in second words') (dealers_in first other)
  first-back other are m =
      dealers-back me (dealers_in first other) (dealers_in second words') (dealers-elements first.parties other.bidders s.elements)
      (dealers-elements second.parties lists s.elements') (dealers-words first.parties other.bidders are.bidders) m

  pub back : IsOnly (λ other. TradesMapped me losses first other second words') words
  back other m =
      let masks_same : other.masks ≡ words.masks =
      masks-only (map neg_of losses) masks me other.masks words.masks
      (masks-back me losses s.lost other.masks masks (are-masks other m.are_words) m.masks)
      (masks-back me losses s.lost words.masks masks (are-masks words s.are_words) s.masks_mapped) in
      let many : length other.bidders ≡ length first.parties = sym m.lists ∙ s.lists_same ∙ s.count in
      let lists_same : other.bidders ≡ words.bidders =
      words-told first.parties other.bidders words.bidders many s.count
      (dealers-only me (dealers_in second words') (dealers_in first other) (dealers_in first words)
      (told-parties first.parties other.bidders many ∙ sym (told-parties first.parties words.bidders s.count))
      (first-back other m.are_words m.dealers)
      (first-back words s.are_words s.dealers_mapped)) in
      let here_same : setup_in first other ≡ ran other.coefficients =
      (λ x. record {
        next = first.next;
        inputs = first.inputs (lists_same x);
        masks = masks_same x;
        numbers = numbers_of other.coefficients;
      })
      ∙ sym (begun first.next first
      (record { masks = words.masks; coefficients = other.coefficients; bidders = words.bidders }) lines refl s.here) in
      let same : other.coefficients ≡ words.coefficients = c.back other.coefficients (all-words other m.are_words) (record {
        places = m.places;
        own = m.own;
        numbers = gate-along me most (setup_in first other) (ran other.coefficients) (setup_in second words')
            (ran' coefficients) here_same (sym begun-there)
            m.numbers;
      }) in
      λ x. record { masks = masks_same x; coefficients = same x; bidders = lists_same x }
