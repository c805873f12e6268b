-- What the disassembler and the assembler promise, in document 01's terms. `Line` has the line of an instruction, `Disassemble` and
-- `Assemble` the two calls, `Cut` the words that a line gives, `Laws` what holds of both calls together, `AllRam` that an all-RAM map changes
-- nothing, and `Examples` document 01's own lines.
pub mod Answer
pub mod Line
pub mod Disassemble
pub mod Cut
pub mod Assemble
pub mod Laws
pub mod AllRam
pub mod Examples
pub mod Inner
