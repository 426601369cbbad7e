-- The bank of a plan keeps the rules of every bank.

use Rattle.bank.specs.Laws.{Laws}
use Rattle.join.specs.JoinsLemmas.{joined_lawful}
use Rattle.table.specs.Rasters.{raster}
use Rattle.table.specs.Sporadics.{sporadic}
use Rattle.table.proofs.Lawful.{raster_lawful, sporadic_lawful}
use Rattle.plan.specs.Plans.{plan_kind}

pub plan_lawful : Laws plan_kind
plan_lawful = joined_lawful sporadic raster sporadic_lawful raster_lawful
