-- Laws of `specs/Keeping.antt`: what a program that stores nothing has made.
use Rattle.std.specs.Prelude.{Result, Ok, Err, IfOk}
use Rattle.command_frame.specs.declared.work.Work.{Work}
use Rattle.command_frame.specs.Keeping.{HasNoStores}
use Rattle.command_frame.specs.Finishing.{StoresNothing}

pub stores_nothing : {S : Type 0} (delivers : Work → Type 0) (made : Result Work S) → HasNoStores delivers → IfOk made delivers
    → StoresNothing made
stores_nothing delivers (Ok work) none h = none work h
stores_nothing delivers (Err status) none h = tt
