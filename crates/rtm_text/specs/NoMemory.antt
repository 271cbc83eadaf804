use Rattle.rtm_text.specs.declared.no_memory.NoMemory.{NoMemory}

-- the one value of NoMemory
abbrev pub no_memory : NoMemory
no_memory = record {}
