-- What a handle owns: something where it is open, and nothing where it is closed.
use Rattle.std.specs.Prelude.{Bool, true, false}
use base.Fml.{Fml, ftrue}

-- what a handle owns that is open, or closed
abbrev pub owned_if : Bool → Fml → Fml
owned_if true something = something
owned_if false something = ftrue
