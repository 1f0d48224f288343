-- The errand of a command whose words are read.
use Rattle.beet_errand.specs.Errands.{Errand}
use Rattle.beet_job_sale.specs.Sales.{sale_errand}
use Rattle.beet_sale_app.specs.declared.commands.SaleCommand.{SaleCommand}

-- the errand of a command with these words
abbrev pub errand_for : SaleCommand → Errand
errand_for command = sale_errand command.files.sale.now command.files.servers.now
