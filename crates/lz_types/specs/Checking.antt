-- Trusted: the numbers of the rules, and which list has all rules that a program breaks.
use Rattle.std.specs.Prelude.{◌≡◌, ℕ, List}
use Rattle.lz_tree.specs.Trees.{TranslationUnit}
use Rattle.lz_scopes.specs.declared.fault.Fault.{Fault}
use Rattle.lz_scopes.specs.declared.fault.Rule.{Rule}
use Rattle.lz_scopes.specs.declared.fault.Rule.TheVariants.{Undeclared, DeclaredTwice, NoFunction, ArgumentCount, KnownNameTaken, NoValue, TypeMisfit, BadLength, NotConstant, BadInitializer, LargeConstant, OutsideLoop, BadReturn, Recursive, NoMain, NoStartRoutine, ThreadInThread, PointerOutsideStart, LocalMutex, MisplacedAddress, BadAttribute, MisplacedText, ManyElements, RefusedType, OtherPrototype, TooHigh}
use Rattle.lz_scopes.specs.Files.{Facts, file_with}
use Rattle.lz_resolve.specs.ScopedPrograms.{scoped_of}
use Rattle.lz_calls.specs.Calls.{AreFacts}
use Rattle.lz_types.specs.Faults.{file_faults}

-- the number of a rule
abbrev pub number_of : Rule → ℕ
number_of Undeclared = 1
number_of DeclaredTwice = 2
number_of NoFunction = 3
number_of ArgumentCount = 4
number_of KnownNameTaken = 5
number_of NoValue = 6
number_of TypeMisfit = 7
number_of BadLength = 8
number_of NotConstant = 9
number_of BadInitializer = 10
number_of LargeConstant = 11
number_of OutsideLoop = 12
number_of BadReturn = 13
number_of Recursive = 14
number_of NoMain = 15
number_of NoStartRoutine = 16
number_of ThreadInThread = 17
number_of PointerOutsideStart = 18
number_of LocalMutex = 19
number_of MisplacedAddress = 20
number_of BadAttribute = 21
number_of MisplacedText = 22
number_of ManyElements = 23
number_of RefusedType = 24
number_of OtherPrototype = 25
number_of TooHigh = 26

-- The list is that of all rules that the program breaks, in order.
pub record AreFaults (unit : TranslationUnit) (list : List Fault) : Type 0 where
  pub facts : Facts
  pub right : AreFacts (scoped_of unit).functions facts
  pub listed : list ≡ file_faults (file_with unit facts) unit.externals
