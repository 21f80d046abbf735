-- The command line is one of which clap tells all.
use Rattle.std.proofs.Common.{◌≡◌, true, [], inl, inr, refl, subst}
use Rattle.clap.specs.Simple.{is_simple}
use Rattle.clap.specs.Faults.{is_simple_and_free}
use Rattle.clap.specs.Kinds.{HasKind, IsAmong, Kinds}
use Rattle.clap.specs.Values.{kind_of}
use Rattle.clap.specs.declared.error.Error.{Error}
use Rattle.clap.specs.declared.error.kind.ErrorKind.TheVariants as kind
use Rattle.clap.proofs.OnLiterals.{clap_on_literals}
use Rattle.lz_words.specs.CommandLine.{command_line}

pub simple_line : is_simple command_line ≡ true
unfolding clap_on_literals
simple_line = refl

pub free_line : is_simple_and_free command_line ≡ true
unfolding clap_on_literals
free_line = refl

-- an error has no cause where there is no kind, but want of memory
pub no_cause : (kinds : Kinds) (e : Error) → HasKind kinds e → kinds ≡ [] → (kind_of e ≡ kind.OutOfMemory → ⊥) → ⊥
no_cause kinds e (inl lack) none not = not lack
no_cause kinds e (inr among) none not = subst (IsAmong (kind_of e)) none among
