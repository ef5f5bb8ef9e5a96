-- Inner: no contract beyond this crate cites a definition of this module.
-- When a client that has its answer sends nothing more.
use Rattle.std.specs.Prelude.{◌≡◌, ◌⊎◌, true, Some}
use Rattle.tb_desk.specs.declared.leaving.Leaver.{Leaver}

-- The last read said so, or the client has sent more than a request has.
abbrev pub HasEnded : Leaver → Type 0
HasEnded leaver = (leaver.reads.end ≡ Some true) ⊎ (leaver.most ≡ 0)
