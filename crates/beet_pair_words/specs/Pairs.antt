-- The words of a command `pair`.
use Rattle.std.specs.Prelude.{ℕ, List, [], ◌∷◌, Option, None, option_map, ◌&&◌, if◌then◌else◌, codes}
use Rattle.beet_field.specs.Point.{server_of}
use Rattle.beet_field.specs.declared.point.Point.{Point}
use Rattle.beet_command.specs.Words.{are_names, is_word}
use Rattle.beet_pair_words.specs.declared.pair.PairFiles.{PairFiles}

-- what a program makes of a command `pair` with five words, of which the fourth is a server's number
abbrev pub pair_of : {A : Type 0} → (List ℕ → List ℕ → List ℕ → Point → List ℕ → A) →
    List ℕ → List ℕ → List ℕ → List ℕ → List ℕ → List ℕ → Option A
pair_of made command first second servers server out =
    if is_word command (codes "pair") && are_names (first ∷ second ∷ servers ∷ out ∷ [])
    then option_map (λ s. made first second servers s out) (server_of server)
    else None

-- what the words of a command `pair` stand for: the two files to compare, the servers file, a server, and the name with
-- which the files that are put begin
pub record Pair : Type 0 where
  pub first : List ℕ
  pub second : List ℕ
  pub servers : List ℕ
  pub server : Point
  pub out : List ℕ

abbrev pub words_of : List ℕ → List ℕ → List ℕ → Point → List ℕ → Pair
words_of first second servers s out = record {
  first = first;
  second = second;
  servers = servers;
  server = s;
  out = out;
}

abbrev pub read_words : PairFiles × Point → Pair
read_words read = words_of read.0.first.now read.0.second.now read.0.servers.now read.1 read.0.out.now

-- what is made of the words that are read
abbrev pub of_pair : {A : Type 1} → (List ℕ → List ℕ → List ℕ → Point → List ℕ → A) → PairFiles → Point → A
of_pair made files s = made files.first.now files.second.now files.servers.now s files.out.now
