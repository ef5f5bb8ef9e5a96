-- How each command ends: the first of its tests that gives an ending decides.
use Rattle.std.specs.Prelude.{ℕ, List, ◌&&◌}
use Rattle.tb_core.specs.declared.kinds.Event.{Event}
use Rattle.tb_core.specs.declared.limits.Limits.{Limits}
use Rattle.tb_core.specs.Names.{is_name}
use Rattle.tb_core.specs.Machine.{Machine}
use Rattle.tb_core.specs.Commands.{Command, import_file, event_on, correct, pull, restore, Answer, Ending, ending}
use Rattle.tb_core.specs.Tests.{◌otherwise◌, Refuses, IsBadName, IsNoBatch, IsNoSentence, IsEventRefused}
use Rattle.tb_core.specs.Tests.{IsCorrectRefused, IsPullRefused, IsRestoreRefused, IsNameTaken, IsIdTaken, IsFull}
use Rattle.tb_core.specs.Tests.{IsUnread, IsBroken, IsEmpty, IsNotOne, IsIdChanged, IsTextChanged, IsNothingChanged}
use Rattle.tb_core.specs.Tests.{RepeatsImport, RepeatsCorrection, Accepts}

abbrev pub ImportEnds : Limits → Machine → List ℕ → List ℕ → List ℕ → Ending → Type 0
ImportEnds l s name user body =
    Refuses s (IsBadName (is_name name && is_name user))
    otherwise RepeatsImport s name body
    otherwise Refuses s (IsUnread body)
    otherwise Refuses s (IsBroken body)
    otherwise Refuses s (IsEmpty body)
    otherwise Refuses s (IsNameTaken s name)
    otherwise Refuses s (IsIdTaken s body)
    otherwise Refuses s (IsFull l s (import_file name user body))
    otherwise Accepts s (import_file name user body)

abbrev pub EventEnds : Limits → Machine → List ℕ → Event → List ℕ → Ending → Type 0
EventEnds l s name event user =
    Refuses s (IsBadName (is_name name && is_name user))
    otherwise Refuses s (IsNoBatch s name)
    otherwise Refuses s (IsEventRefused s name event user)
    otherwise Refuses s (IsFull l s (event_on name event user))
    otherwise Accepts s (event_on name event user)

abbrev pub CorrectEnds : Limits → Machine → ℕ → ℕ → List ℕ → List ℕ → Ending → Type 0
CorrectEnds l s n base user body =
    Refuses s (IsBadName (is_name user))
    otherwise Refuses s (IsNoSentence s n)
    otherwise RepeatsCorrection s n base user body
    otherwise Refuses s (IsCorrectRefused s n base user)
    otherwise Refuses s (IsUnread body)
    otherwise Refuses s (IsBroken body)
    otherwise Refuses s (IsEmpty body)
    otherwise Refuses s (IsNotOne body)
    otherwise Refuses s (IsIdChanged s n body)
    otherwise Refuses s (IsTextChanged s n body)
    otherwise Refuses s (IsNothingChanged s n body)
    otherwise Refuses s (IsFull l s (correct n base user body))
    otherwise Accepts s (correct n base user body)

abbrev pub PullEnds : Limits → Machine → ℕ → List ℕ → Ending → Type 0
PullEnds l s n user =
    Refuses s (IsBadName (is_name user))
    otherwise Refuses s (IsNoSentence s n)
    otherwise Refuses s (IsPullRefused s n)
    otherwise Refuses s (IsFull l s (pull n user))
    otherwise Accepts s (pull n user)

abbrev pub RestoreEnds : Limits → Machine → ℕ → List ℕ → Ending → Type 0
RestoreEnds l s n user =
    Refuses s (IsBadName (is_name user))
    otherwise Refuses s (IsNoSentence s n)
    otherwise Refuses s (IsRestoreRefused s n)
    otherwise Refuses s (IsFull l s (restore n user))
    otherwise Accepts s (restore n user)

abbrev pub Ends : Limits → Machine → Command → Ending → Type 0
Ends l s (import_file name user body) = ImportEnds l s name user body
Ends l s (event_on name event user) = EventEnds l s name event user
Ends l s (correct n base user body) = CorrectEnds l s n base user body
Ends l s (pull n user) = PullEnds l s n user
Ends l s (restore n user) = RestoreEnds l s n user

-- The command has this answer, and this is the state after it.
abbrev pub Steps : Limits → Machine → Command → Answer → Machine → Type 0
Steps l s c answer t = Ends l s c (ending answer t)
