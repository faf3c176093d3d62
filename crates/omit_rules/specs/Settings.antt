-- Which settings a text writes, and which fault it has.
use Rattle.std.specs.Prelude.{◌≡◌, ◌⊎◌, ℕ, List, [], ◌∷◌, Option, Some, None, Result, Ok, Err}
use Rattle.toml.specs.Data.{Members}
use Rattle.toml.specs.Parse.{parse_document}
use Rattle.omit_rules.specs.declared.fault.SettingsFault.{SettingsFault}
use Rattle.omit_rules.specs.declared.fault.SettingsFault.TheVariants.{NotToml, Memory}
use Rattle.omit_rules.specs.declared.settings.Settings.{Settings}
use Rattle.omit_rules.specs.Faults.{faults_in, first}
use Rattle.omit_rules.specs.Values.{Values, values_of, values_in}

-- values where there is no fault, else the fault that comes first
abbrev pub unless_faulty : List SettingsFault → Values → Result Values SettingsFault
unless_faulty [] values = Ok values
unless_faulty (fault ∷ faults) values = Err fault

abbrev pub in_document : Option Members → Result Values SettingsFault
in_document None = Err NotToml
in_document (Some table) = unless_faulty (faults_in table) (values_in table)

-- the values that a text of TOML 1.1 gives, or its fault
abbrev pub settings_of : List ℕ → Result Values SettingsFault
settings_of text = in_document (parse_document text)

-- an answer to these values or this fault. Memory is free.
abbrev pub Gives : Result Values SettingsFault → Result Settings SettingsFault → Type 0
Gives wanted (Ok settings) = wanted ≡ Ok (values_of settings)
Gives wanted (Err fault) = (fault ≡ Memory) ⊎ (wanted ≡ Err fault)

-- an answer to faults in the order in which they are told: the first, or that there is none. Memory is free.
abbrev pub Tells : {T : Type 0} → List SettingsFault → Result T SettingsFault → Type 0
Tells faults (Ok x) = faults ≡ []
Tells faults (Err fault) = (fault ≡ Memory) ⊎ (first faults ≡ Some fault)
