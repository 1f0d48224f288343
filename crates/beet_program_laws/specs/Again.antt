-- A recording of the second of two worlds, by the words that were put for it.
use Rattle.std.specs.Prelude.{◌≡◌, ◌++◌, ℕ, List, [], ◌∷◌, All, codes, Some, Ok}
use Rattle.beet_field.specs.Point.{server_of}
use Rattle.beet_field.specs.Trio.{member}
use Rattle.beet_field.specs.declared.point.Point.{Point}
use Rattle.beet_field.specs.declared.trio.Trio.{Trio}
use Rattle.beet_store.specs.Files.{File, bytes_of}
use Rattle.beet_book.specs.BookFiles.{book_of}
use Rattle.beet_book.specs.ServerFiles.{servers_of}
use Rattle.beet_book.specs.declared.entries.Entry.{Entry}
use Rattle.beet_book.specs.declared.server_file.TheConstants.{SERVERS_LIMIT}
use Rattle.beet_book.specs.declared.sources.Servers.TheVariants.{Bundle}
use Rattle.beet_app_laws.specs.Calls.{Call, IsDoneCall, Puts}
use Rattle.beet_app_laws.specs.Held.{IsHeld}
use Rattle.beet_program_laws.specs.Outcomes.{three_files}

-- the words of a recording of three files
abbrev pub record_words : List ℕ → List ℕ → List ℕ → List ℕ → List (List ℕ)
record_words auction servers book out = codes "record" ∷ auction ∷ servers ∷ book ∷ out ∷ []

-- under these names are held the file of the auction, the second book and each bid that it names, as they were when the
-- worlds were put; and a file of servers that names a bundle, which is the one that was put
pub record HoldsSecond (files held : List File) (auction book2 bundle name servers list : List ℕ) : Type 0 where
  pub auction_file : bytes_of held name ≡ bytes_of files auction
  pub book_file : bytes_of held list ≡ bytes_of files book2
  pub bids : (bytes : List ℕ) (entries : List Entry) → bytes_of files book2 ≡ Some bytes → book_of bytes ≡ Ok entries →
      All (λ entry. bytes_of held entry.bid ≡ bytes_of files entry.bid) entries
  pub words : List ℕ
  pub sources : IsHeld held servers SERVERS_LIMIT servers_of (Bundle words)
  pub bundle_file : bytes_of held words ≡ Some bundle

-- a recording put three transcripts, and that of this server has these bytes
pub record PutsFor (s : Point) (seen out : List ℕ) (call : Call) : Type 0 where
  pub transcripts : Trio (List ℕ)
  pub own : member transcripts s ≡ seen
  pub text : List ℕ
  pub gives : Puts call (three_files out transcripts) text

-- two worlds were put for a server. Whoever records the second book with the words that were put, and is done, puts for
-- this server the bytes that were put for both worlds
pub record IsPutAgain (files : List File) (auction book2 server out : List ℕ) (call : Call) : Type 0 where
  pub s : Point
  pub server_is : server_of server ≡ Some s
  pub seen : List ℕ
  pub bundle : List ℕ
  pub text : List ℕ
  pub gives : Puts call
      ((out ++ codes ".first", seen) ∷ (out ++ codes ".second", seen) ∷ (out ++ codes ".words", bundle) ∷ []) text
  pub again : (held : List File) (recording : Call) (name servers list put : List ℕ) →
      HoldsSecond files held auction book2 bundle name servers list →
      IsDoneCall held (record_words name servers list put) recording → PutsFor s seen put recording
