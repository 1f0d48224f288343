use Rattle.std.proofs.Common.{◌≡◌, Ok}
use Rattle.beet_book.specs.ServerFiles.{servers_of}
use Rattle.beet_notice.specs.Notices.{seeds_of_servers}
use Rattle.beet_notice.proofs.SeedFacts.{keeps-same, none-read}
use Rattle.beet_notice.proofs.watch.note_servers.Goals as goal

pub returns-in_ok-note_servers-in-Ok : goal.returns-in_ok-note_servers-in-Ok
returns-in_ok-note_servers-in-Ok c =
    let is : servers_of c.args.bytes.now ≡ Ok c.in-Ok.servers = c.in-Ok.ensures in
    rw is c.in_ok-note_servers-in-Ok.ensures

pub returns-in-Err-Bad : goal.returns-in-Err-Bad
returns-in-Err-Bad c = λ before keeps.
    keeps-same before _ c.args.seeds.now
    (none-read (λ servers. servers) seeds_of_servers (servers_of c.args.bytes.now) c.in-Err-Bad.field-0 _ _ c.in-Err-Bad.field-0-is
    c.in-Err-Bad.ensures) keeps
