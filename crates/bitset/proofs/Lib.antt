-- Laws of bits, of members, of counts and of the lowest member.
pub mod DigitLaws
pub mod SetLaws
pub mod CountLaws
pub mod LowestLaws
