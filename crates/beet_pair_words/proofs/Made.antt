-- What a program makes of the words that are read.
use Rattle.std.proofs.Common.{◌≡◌, ℕ, List, [], ◌∷◌, Bool, true, false, Option, Some, None, option_map, ◌&&◌, refl}
use Rattle.std.proofs.Common.{if◌then◌else◌}
use Rattle.std.specs.Prelude.{codes}
use Rattle.beet_field.specs.Point.{server_of}
use Rattle.beet_field.specs.declared.point.Point.{Point}
use Rattle.beet_command.specs.Words.{are_names, is_word}
use Rattle.beet_pair_words.specs.Pairs.{Pair, pair_of, words_of}

module _ {A : Type 0} (made : List ℕ → List ℕ → List ℕ → Point → List ℕ → A) where
  abbrev pub from_words : Pair → A
  from_words pair = made pair.first pair.second pair.servers pair.server pair.out

  by-server : (first second servers out : List ℕ) (b : Bool) (at : Option Point) →
      option_map from_words (if b then option_map (λ s. words_of first second servers s out) at else None)
      ≡ (if b then option_map (λ s. made first second servers s out) at else None)
  by-server first second servers out false at = refl
  by-server first second servers out true None = refl
  by-server first second servers out true (Some s) = refl

  -- what is made of the words that are read is what is made of the command
  pub made-of : (command first second servers server out : List ℕ) →
      option_map from_words (pair_of words_of command first second servers server out)
      ≡ pair_of made command first second servers server out
  made-of command first second servers server out =
      by-server first second servers out (is_word command (codes "pair") && are_names (first ∷ second ∷ servers ∷ out ∷ []))
      (server_of server)
