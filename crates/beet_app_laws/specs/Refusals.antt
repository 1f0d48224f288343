-- The line of each refusal.
use Rattle.std.specs.Prelude.{◌≡◌, ◌≢◌, ◌⊎◌, ℕ, List, None}
use Rattle.beet_forms.specs.Faults.{Fault}
use Rattle.beet_forms.specs.FaultLines.{fault_line_of}
use Rattle.beet_errand.specs.Texts.{read_fault_text, usage_text}
use Rattle.beet_errand.specs.declared.answer.OwnRefusal.TheVariants.{OfWorlds, OfAudit}
use Rattle.beet_errand.specs.declared.answer.Refusal.{Refusal}
use Rattle.beet_errand.specs.declared.answer.Refusal.TheVariants.{Usage, ReadFault, BadFile, TooFewWords, Own}
use Rattle.beet_load.specs.WordTexts.{too_few_text, server_short_text}
use Rattle.beet_two_books.specs.declared.agreeing.MapFault.{MapFault}
use Rattle.beet_book_differences.specs.Refusals.{IsLineOf as IsLineFor}
use Rattle.beet_audit.specs.declared.fault.AuditFault.{AuditFault}
use Rattle.beet_audit.specs.declared.fault.AuditFault.TheVariants.{OutOfMemory as MemoryOut}
use Rattle.beet_job_audit.specs.Refusals.{fault_text}

-- the line of a bidder whose words are too few
pub record TellsBidder (line : List ℕ) : Type 0 where
  pub bidder : ℕ
  pub held : ℕ
  pub wanted : ℕ
  pub is : line ≡ too_few_text None bidder held wanted

-- the line of a server whose words of a kind are too few
pub record TellsServer (line : List ℕ) : Type 0 where
  pub server : ℕ
  pub kind : List ℕ
  pub held : ℕ
  pub wanted : ℕ
  pub is : line ≡ server_short_text None server kind held wanted

-- the line of a file that breaks its format or a limit
pub record TellsFile (line : List ℕ) : Type 0 where
  pub name : List ℕ
  pub fault : Fault
  pub is : line ≡ fault_line_of name fault.place fault.reason

-- a line is one of a refusal
abbrev pub IsLineOf : Refusal → List ℕ → Type 0
IsLineOf Usage line = line ≡ usage_text
IsLineOf ReadFault line = (name : List ℕ) × (line ≡ read_fault_text name)
IsLineOf BadFile line = TellsFile line
IsLineOf TooFewWords line = TellsBidder line ⊎ TellsServer line
IsLineOf (Own OfWorlds) line = (fault : MapFault) × IsLineFor fault line
IsLineOf (Own OfAudit) line = (fault : AuditFault) × (fault ≢ MemoryOut) × (line ≡ fault_text fault)
