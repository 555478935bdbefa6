-- memory with too little room
pub mod Room
