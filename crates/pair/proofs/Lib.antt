-- Laws of mapping texts, of both passes of the reader, and of the writer.
pub mod FrontLaws
pub mod LinesLaws
pub mod PassLaws
pub mod StoreLaws
pub mod LoadLaws
pub mod WriteLaws
pub mod TextLaws
pub mod TripLaws
pub mod OutcomeLaws
pub mod Examples
