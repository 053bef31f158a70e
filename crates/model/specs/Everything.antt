-- The whole model unfolds where a line says `unfolding everything`.
use Rattle.laws.specs.Lists.{lists}
use Rattle.laws.specs.Texts.{texts}
use Rattle.capability.specs.Numbers.{numbers}
use Rattle.model.specs.Config.{config}
use Rattle.model.specs.Op.{operation}
use Rattle.model.specs.Registers.{registers}
use Rattle.model.specs.Timeline.{timeline}
use Rattle.model.specs.Traces.{render}
use Rattle.model.specs.Units.{units}
use Rattle.model.specs.State.{engine}
use Rattle.model.specs.Write.{writing}
use Rattle.model.specs.Issue.{issuing}
use Rattle.model.specs.Scoreboard.{scoreboard}
use Rattle.model.specs.Views.{views}
use Rattle.model.specs.Requests.{requests}
use Rattle.model.specs.Calls.{calls}
use Rattle.model.specs.RustTimeline.{rust_timeline}
use Rattle.model.specs.Forecast.{forecasts}

unfoldable pub everything : Unit {0}
unfolding lists texts numbers config operation registers timeline render units engine writing issuing scoreboard views requests calls
    rust_timeline forecasts
everything = tt
